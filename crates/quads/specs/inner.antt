-- For proofs and the layers between: no clause of the headline cites a definition of these files.
pub mod JobResult
pub mod Load
pub mod Replay
pub mod Update
pub mod Refusal
pub mod Service
pub mod Run
pub mod Outcomes
