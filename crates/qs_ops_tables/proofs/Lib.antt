-- The lemmas.
pub mod Hashes
pub mod Keyed
pub mod Excluding
pub mod Solutions
pub mod TableRows
pub mod Common
