pub mod Kinds
pub mod Text
pub mod Outcome
pub mod inner
