pub mod Admits
pub mod Lendings
