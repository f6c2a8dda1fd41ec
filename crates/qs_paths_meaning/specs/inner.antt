-- For proofs and the layers between: no clause of the headline cites a definition of these files.
pub mod Steps
pub mod Found
pub mod Links
pub mod Edges
pub mod Walk
pub mod Pair
