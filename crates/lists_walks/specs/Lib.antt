pub mod Products
pub mod Lanes
pub mod Letters
