pub mod Aside
pub mod LongNames
pub mod Given
pub mod Alike
pub mod Apart
pub mod Joining
pub mod Shown
pub mod Cases
