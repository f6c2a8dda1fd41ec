-- For proofs and the layers between: no clause of the headline cites a definition of these files.
pub mod HeadView
pub mod HeadState
pub mod Feeding
pub mod Laws
pub mod Stage
pub mod Reply
pub mod HeadEnd
pub mod Checks
pub mod Parameters
pub mod RequestOf
