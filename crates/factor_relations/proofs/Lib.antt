pub mod Orders
pub mod Relations
