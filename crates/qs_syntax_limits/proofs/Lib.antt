pub mod ByLength
pub mod Rows
pub mod Trees
