pub mod Listing
pub mod Fits
