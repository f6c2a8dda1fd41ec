-- For proofs and the layers between: no clause of the headline cites a definition of these files.
pub mod Run
pub mod Labels
pub mod Part
pub mod Written
pub mod State
pub mod Joined
pub mod Entries
pub mod LabelMap
pub mod Unread
pub mod Gap
pub mod Next
pub mod StatementState
pub mod PartAt
pub mod Reading
pub mod Outcome
pub mod Renumbered
pub mod WriteFault
