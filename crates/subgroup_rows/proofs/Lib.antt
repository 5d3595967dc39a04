pub mod OneFactor
pub mod Keeps
