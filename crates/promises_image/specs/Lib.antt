pub mod Images
pub mod Viewers
