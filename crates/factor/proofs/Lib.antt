pub mod Admits
pub mod Questions
pub mod Composing
