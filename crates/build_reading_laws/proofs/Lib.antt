pub mod Stores
pub mod Steps
pub mod Words
pub mod ReadingState
pub mod Runs
pub mod OnePlace
pub mod Readings
pub mod Storing
