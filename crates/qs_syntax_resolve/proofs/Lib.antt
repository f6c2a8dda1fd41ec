mod Either
pub mod Pieces
pub mod Decimals
pub mod Literals
pub mod Declared
pub mod Equations
pub mod TripleEquations
pub mod PatternEquations
pub mod Again
pub mod Modifies
