pub mod Blanks
pub mod Template
pub mod Instances
pub mod inner
