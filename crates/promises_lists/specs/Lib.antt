pub mod Places
pub mod Walls
pub mod Alone
pub mod Tiles
pub mod Known
