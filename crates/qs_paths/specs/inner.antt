-- For proofs and the layers between: no clause of the headline cites a definition of these files.
pub mod Coming
pub mod Nodes
pub mod Links
pub mod Scans
pub mod Seen
pub mod State
