pub mod Rule
pub mod Notation
pub mod Grammar
pub mod inner
