pub mod Modifiers
pub mod Selection
pub mod Construction
pub mod Request
pub mod Sequence
pub mod Outcome
pub mod inner
