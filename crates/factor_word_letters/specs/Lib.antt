pub mod Spell
pub mod Letters
