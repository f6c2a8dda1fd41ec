-- For proofs and the layers between: no clause of the headline cites a definition of these files.
pub mod Descriptors
