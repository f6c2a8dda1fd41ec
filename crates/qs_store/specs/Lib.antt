pub mod Same
pub mod Content
pub mod Change
pub mod WholeGraphs
pub mod Visible
pub mod inner
