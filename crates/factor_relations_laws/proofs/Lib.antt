pub mod Codes
pub mod Relators
