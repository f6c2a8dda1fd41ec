pub mod Log
pub mod Run
pub mod inner
