pub mod Source
pub mod Maps
