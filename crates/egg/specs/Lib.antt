pub mod Table
pub mod Factor
pub mod Scan
pub mod Pairs
pub mod Answers
pub mod Refusals
