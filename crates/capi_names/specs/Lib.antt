pub mod Names
pub mod Told
