pub mod IndexLaws
pub mod Carries
pub mod Outlines
pub mod Handles
