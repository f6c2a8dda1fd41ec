pub mod Places
pub mod Listening
pub mod Puts
mod Requests
