pub mod Inverting
pub mod Answering
