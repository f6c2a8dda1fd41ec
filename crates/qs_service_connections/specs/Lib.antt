pub mod Message
pub mod Meaning
pub mod State
pub mod Step
pub mod Serve
pub mod inner
