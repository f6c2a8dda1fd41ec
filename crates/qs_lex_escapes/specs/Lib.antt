pub mod Escape
pub mod Decoded
pub mod Piece
pub mod inner
