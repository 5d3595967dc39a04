pub mod Undoing
pub mod Hints
