-- For proofs and the layers between: no clause of the headline cites a definition of these files.
pub mod Calls
pub mod Joined
pub mod SoFar
pub mod Comes
pub mod Makes
pub mod Words
pub mod Meaning
