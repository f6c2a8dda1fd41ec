pub mod Goes
pub mod Agrees
pub mod Moves
