pub mod Laws
pub mod Bounds
