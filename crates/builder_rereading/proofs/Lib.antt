pub mod Copying
pub mod Owning
