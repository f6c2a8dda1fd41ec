pub mod Json
pub mod Triples
pub mod Lines
pub mod inner
