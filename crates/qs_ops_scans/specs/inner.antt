-- For proofs and the layers between: no clause of the headline cites a definition of these files.
pub mod Opened
pub mod Skipped
pub mod Quads
pub mod Names
pub mod Ends
pub mod Kept
pub mod Sides
pub mod Given
pub mod Each
pub mod Makes
pub mod Paths
pub mod Prepared
