pub mod Answers
pub mod Indices
pub mod Questions
pub mod Outline
pub mod Trivial
