pub mod Sweeping
pub mod Sample
