pub mod Echo
pub mod Log
