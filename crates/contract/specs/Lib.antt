pub mod Meaning
pub mod Faults
pub mod Shown
pub mod Scans
