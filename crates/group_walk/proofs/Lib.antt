pub mod Steps
pub mod Admits
pub mod Owners
pub mod Follows
