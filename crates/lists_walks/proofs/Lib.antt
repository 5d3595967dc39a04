pub mod Letters
pub mod Lanes
pub mod Walls
