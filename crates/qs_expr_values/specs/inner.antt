-- For proofs and the layers between: no clause of the headline cites a definition of these files.
pub mod Value
pub mod Number
pub mod Values
pub mod Text
pub mod TermValue
pub mod Sorting
