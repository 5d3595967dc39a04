pub mod Fill
pub mod Walk
pub mod Alike
