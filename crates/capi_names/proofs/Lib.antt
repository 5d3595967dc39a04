pub mod Records
pub mod Told
