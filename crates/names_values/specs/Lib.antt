pub mod Answers
pub mod Names
