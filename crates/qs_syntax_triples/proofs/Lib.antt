pub mod FirstKinds
pub mod TriplesLoop
