-- For proofs and the layers between: no clause of the headline cites a definition of these files.
pub mod Start
pub mod State
pub mod IriState
pub mod MarkState
pub mod NameState
pub mod NumberState
pub mod StringState
pub mod Prefix
pub mod Steady
pub mod Parts
pub mod Unread
pub mod Fault
pub mod Place
pub mod Lexes
pub mod Table
