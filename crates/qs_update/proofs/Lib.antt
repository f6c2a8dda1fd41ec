pub mod Under
pub mod DataRun
pub mod Quads
mod Tested
mod AboveBlanks
pub mod Turns
pub mod ByEffect
