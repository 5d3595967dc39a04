pub mod WakeLaws
pub mod Carrying
