pub mod Waking
pub mod Carrying
