pub mod Tables
pub mod Cases
pub mod Edges
pub mod Images
