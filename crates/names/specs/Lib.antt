pub mod Arguments
pub mod Making
pub mod Products
pub mod Joined
