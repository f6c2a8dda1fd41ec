pub mod Explained
pub mod Loads
pub mod Replays
pub mod Results
pub mod Runs
pub mod Updates
