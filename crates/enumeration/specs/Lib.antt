pub mod Calls
pub mod Quick
