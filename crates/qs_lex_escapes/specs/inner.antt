-- For proofs and the layers between: no clause of the headline cites a definition of these files.
pub mod Backslashes
pub mod StandsFor
pub mod Decoded
pub mod Escape
