pub mod Lines
pub mod Evenings
