pub mod Character
pub mod Form
pub mod Longest
pub mod inner
