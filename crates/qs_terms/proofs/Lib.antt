pub mod Lowered
pub mod SameTerm
pub mod SameStatement
pub mod Counts
pub mod FirstOnes
pub mod Puts
pub mod Datatypes
pub mod Behind
