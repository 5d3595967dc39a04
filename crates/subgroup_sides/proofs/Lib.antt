pub mod Counts
pub mod SideLaws
pub mod Few
pub mod Generators
