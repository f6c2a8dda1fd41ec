-- For proofs and the layers between: no clause of the headline cites a definition of these files.
pub mod Collected
pub mod Front
pub mod SoFar
pub mod Distinct
pub mod After
pub mod Ordered
pub mod CellRows
