pub mod Table
pub mod Gap
pub mod Labels
pub mod Part
pub mod Document
pub mod Nquads
pub mod Written
pub mod inner
