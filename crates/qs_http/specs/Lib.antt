pub mod HeadEnd
pub mod Outcome
pub mod Head
pub mod Checks
pub mod Parameters
pub mod RequestOf
pub mod Reply
pub mod inner
