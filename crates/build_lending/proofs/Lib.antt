pub mod Finishing
pub mod Fits
pub mod Lending
