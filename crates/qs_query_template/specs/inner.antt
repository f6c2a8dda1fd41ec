-- For proofs and the layers between: no clause of the headline cites a definition of these files.
pub mod Lent
pub mod Numbered
pub mod DataBlocks
pub mod Fresh
pub mod Blanks
pub mod Template
pub mod Instances
