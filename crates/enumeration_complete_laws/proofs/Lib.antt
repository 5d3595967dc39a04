pub mod GroupTable
pub mod Words
pub mod OldSteps
pub mod Visiting
pub mod Running
pub mod Saying
pub mod QuickVisiting
pub mod QuickRunning
