-- For proofs and the layers between: no clause of the headline cites a definition of these files.
pub mod Told
pub mod ScriptEvents
pub mod Replayed
pub mod Script
