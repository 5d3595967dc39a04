pub mod Answers
pub mod Handles
pub mod Alone
pub mod Counts
