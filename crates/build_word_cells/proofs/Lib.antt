pub mod Storing
pub mod Hops
