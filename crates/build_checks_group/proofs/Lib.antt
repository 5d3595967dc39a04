pub mod Commuting
