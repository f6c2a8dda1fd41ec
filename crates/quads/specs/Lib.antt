pub mod Due
pub mod Run
pub mod inner
