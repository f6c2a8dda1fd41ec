-- For proofs and the layers between: no clause of the headline cites a definition of these files.
pub mod InOrder
pub mod Placed
pub mod Outcome
pub mod Request
pub mod Selection
pub mod Sequence
