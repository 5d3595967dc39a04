pub mod Places
pub mod Halves
pub mod Exponents
pub mod Rounds
pub mod Chunks
