-- For proofs and the layers between: no clause of the headline cites a definition of these files.
pub mod NameFaults
pub mod OperationIsListed
pub mod TellsFirst
pub mod TextVariables
pub mod Spelling
