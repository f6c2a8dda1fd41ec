pub mod Levels
pub mod Positions
pub mod Flows
pub mod Toils
pub mod Makes
pub mod Unions
pub mod Emits
