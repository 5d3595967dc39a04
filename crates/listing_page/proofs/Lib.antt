pub mod Orders
pub mod Pages
pub mod Fits
pub mod Whole
