pub mod Truth
pub mod Calls
pub mod Meaning
pub mod inner
