-- For proofs and the layers between: no clause of the headline cites a definition of these files.
pub mod Shortage
pub mod Turn
pub mod Keeps
pub mod Acts
pub mod Log
