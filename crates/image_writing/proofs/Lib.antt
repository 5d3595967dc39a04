pub mod WriteLaws
pub mod Bytes
