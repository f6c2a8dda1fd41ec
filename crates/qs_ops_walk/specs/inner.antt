-- For proofs and the layers between: no clause of the headline cites a definition of these files.
pub mod Stream
pub mod Setting
pub mod Works
pub mod Coming
pub mod Moves
pub mod After
pub mod Cursor
pub mod Gathered
pub mod Alike
