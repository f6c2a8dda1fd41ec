pub mod Graphs
pub mod Effect
pub mod Request
pub mod Outcome
pub mod inner
