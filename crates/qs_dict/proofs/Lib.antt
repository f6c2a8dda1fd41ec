pub mod Places
pub mod Numbers
pub mod Table
mod Rows
