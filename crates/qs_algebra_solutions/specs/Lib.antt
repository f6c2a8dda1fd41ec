pub mod Solution
pub mod Operators
pub mod inner
