pub mod Walks
pub mod Letters
