-- For proofs and the layers between: no clause of the headline cites a definition of these files.
pub mod Flags
pub mod Certain
pub mod Possible
pub mod Expressions
pub mod Translation
pub mod Basic
pub mod Numbers
