pub mod Composed
pub mod Questions
pub mod Relations
