pub mod Total
pub mod Whole
pub mod Cut
pub mod Keeping
