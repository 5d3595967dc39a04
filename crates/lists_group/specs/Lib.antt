pub mod Each
pub mod Passes
