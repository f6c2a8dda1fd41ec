pub mod Made
pub mod Bounds
pub mod Texts
