pub mod Invariant
pub mod Recorded
pub mod Stack
pub mod Going
pub mod Longer
pub mod Paused
