pub mod Answers
pub mod Lists
pub mod Worked
pub mod Passes
