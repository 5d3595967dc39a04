pub mod Refusals
pub mod Refusing
pub mod Laws
pub mod Scans
pub mod Rooms
pub mod Answers
pub mod Cells
