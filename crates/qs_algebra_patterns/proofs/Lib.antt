mod Rows
pub mod Meaning
