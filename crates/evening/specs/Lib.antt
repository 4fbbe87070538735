pub mod Numerals
pub mod Lines
pub mod Evenings
pub mod Agreed
