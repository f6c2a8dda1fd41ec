-- For proofs and the layers between: no clause of the headline cites a definition of these files.
pub mod Refused
pub mod Templates
pub mod Expression
pub mod Names
pub mod Path
pub mod Pattern
pub mod Resolving
pub mod Triples
pub mod Data
pub mod Declarations
pub mod Leaves
pub mod Query
pub mod Resolved
pub mod Update
