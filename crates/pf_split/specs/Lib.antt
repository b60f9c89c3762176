pub mod Lefts
pub mod Pieces
