pub mod Script
pub mod Replay
pub mod Replayed
pub mod inner
