pub mod Laws
pub mod Readings
