pub mod Language
pub mod State
pub mod Carried
pub mod inner
