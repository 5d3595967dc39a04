pub mod Accepted
pub mod FirstWords
pub mod Unaltered
pub mod Refuses
pub mod Papers
