pub mod Settled
pub mod AnyWork
pub mod Lent
pub mod SameRows
pub mod Built
pub mod Twelve
