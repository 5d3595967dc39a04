pub mod Powers
pub mod Signs
