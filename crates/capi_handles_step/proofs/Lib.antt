pub mod Choosing
pub mod Stepping
pub mod Answering
