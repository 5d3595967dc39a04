pub mod Queues
pub mod Closure
