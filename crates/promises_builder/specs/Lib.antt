pub mod Own
pub mod Refusals
pub mod Builds
pub mod Answers
pub mod Calls
pub mod Cases
