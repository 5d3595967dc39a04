pub mod Subgroup
