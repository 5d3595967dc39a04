pub mod RadixLaws
pub mod DivisorLaws
