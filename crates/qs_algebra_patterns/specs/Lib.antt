pub mod Basic
pub mod Eval
pub mod inner
