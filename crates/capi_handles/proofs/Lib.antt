pub mod Handles
pub mod Looks
pub mod Passing
pub mod Admitting
pub mod OneHandle
