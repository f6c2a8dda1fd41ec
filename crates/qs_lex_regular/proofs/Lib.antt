pub mod Derivative
pub mod Longest
pub mod Scan
pub mod HexDigits
