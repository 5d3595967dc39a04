pub mod Passes
pub mod Turns
pub mod Chunks
