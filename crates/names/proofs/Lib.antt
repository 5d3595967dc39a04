pub mod Example
pub mod Rights
pub mod Makes
pub mod Names
pub mod Written
