pub mod SameRules
pub mod Sure
pub mod Unambiguous
pub mod WordRows
pub mod TreeRows
pub mod ByLength
