pub mod Example
pub mod Turns
pub mod Sums
pub mod Puts
