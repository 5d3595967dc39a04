pub mod Predicate
