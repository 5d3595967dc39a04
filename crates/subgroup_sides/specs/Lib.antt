pub mod Sides
pub mod Generators
