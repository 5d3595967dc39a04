pub mod Firsts
pub mod Faults
pub mod Papers
pub mod Orders
pub mod AsMet
pub mod Asked
pub mod Walked
pub mod Parts
