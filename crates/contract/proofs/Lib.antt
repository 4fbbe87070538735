pub mod Sums
pub mod Levels
pub mod Admitted
pub mod Scans
