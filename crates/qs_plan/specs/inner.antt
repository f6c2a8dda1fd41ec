-- For proofs and the layers between: no clause of the headline cites a definition of these files.
pub mod Below
pub mod Numbers
pub mod Lays
pub mod Sames
pub mod Slots
pub mod Reads
pub mod Certain
pub mod Joins
pub mod Fixes
pub mod Feeds
pub mod Parts
pub mod Places
pub mod Plans
