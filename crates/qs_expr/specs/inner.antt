-- For proofs and the layers between: no clause of the headline cites a definition of these files.
pub mod Cell
pub mod Condition
pub mod Evaluated
pub mod Row
pub mod Scratch
pub mod Against
pub mod Parts
pub mod Compact
pub mod Members
