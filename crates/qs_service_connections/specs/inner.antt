-- For proofs and the layers between: no clause of the headline cites a definition of these files.
pub mod Bytes
pub mod Receive
pub mod Serve
pub mod Table
pub mod Meaning
pub mod State
