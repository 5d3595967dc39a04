pub mod Example
pub mod Places
pub mod Passes
pub mod Parts
pub mod Lengths
pub mod Answers
pub mod Pieces
