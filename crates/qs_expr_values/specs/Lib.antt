pub mod Text
pub mod Number
pub mod Values
pub mod Sorting
pub mod inner
