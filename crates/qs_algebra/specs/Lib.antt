pub mod Numbers
pub mod Basic
pub mod Expressions
pub mod Translation
pub mod inner
