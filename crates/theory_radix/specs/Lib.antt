pub mod Radix
pub mod Divisors
