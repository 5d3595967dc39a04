pub mod Presented
pub mod Spanning
