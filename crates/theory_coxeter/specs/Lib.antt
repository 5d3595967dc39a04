pub mod Coxeter
pub mod Tables
pub mod Groups
