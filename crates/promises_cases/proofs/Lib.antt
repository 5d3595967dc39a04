pub mod Cases
pub mod Edges
pub mod Images
pub mod Tables
pub mod Reasons
