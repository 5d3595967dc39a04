pub mod Steps
pub mod Letters
pub mod Handles
pub mod Answers
pub mod FirstWords
pub mod Unaltered
pub mod Refuses
pub mod Papers
