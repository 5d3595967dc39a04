pub mod Inverses
pub mod Hints
