pub mod Lists
pub mod Caps
pub mod Sums
pub mod Joins
pub mod Admitted
