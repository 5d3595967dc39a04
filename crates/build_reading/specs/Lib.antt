pub mod Build
pub mod Reading
