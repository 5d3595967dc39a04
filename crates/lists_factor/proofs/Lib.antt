pub mod Sides
pub mod Pieces
