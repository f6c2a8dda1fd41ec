pub mod Referring
pub mod Growing
pub mod Saying
pub mod Removing
pub mod Adding
pub mod Changing
