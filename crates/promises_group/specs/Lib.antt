pub mod Products
pub mod Known
pub mod Viewers
pub mod Flattening
pub mod Unaltered
pub mod Papers
pub mod Refuses
