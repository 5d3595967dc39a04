pub mod Stored
pub mod Sound
pub mod Until12
pub mod Numbers
