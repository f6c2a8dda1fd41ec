-- For proofs and the layers between: no clause of the headline cites a definition of these files.
pub mod Firsts
pub mod Labels
pub mod Laws
pub mod Met
pub mod Places
pub mod Runs
pub mod Scope
pub mod Selected
pub mod Variables
pub mod VariablesIn
