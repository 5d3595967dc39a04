pub mod Flats
