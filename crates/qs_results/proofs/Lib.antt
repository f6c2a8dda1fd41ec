mod Floats
mod Rows
pub mod Sorted
pub mod Tokens
pub mod Utf8
