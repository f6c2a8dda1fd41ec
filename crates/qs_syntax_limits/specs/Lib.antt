pub mod Brackets
pub mod Large
pub mod LeftOut
pub mod inner
