-- For proofs and the layers between: no clause of the headline cites a definition of these files.
pub mod Lawful
pub mod Carried
pub mod DataRun
pub mod Outcome
pub mod Effect
