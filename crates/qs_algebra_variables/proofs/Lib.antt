pub mod BoundCells
pub mod SetCells
pub mod PathCells
pub mod BoundLaws
pub mod Numbers
pub mod Groups
