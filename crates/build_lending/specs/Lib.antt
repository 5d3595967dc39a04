pub mod Finish
pub mod Lending
