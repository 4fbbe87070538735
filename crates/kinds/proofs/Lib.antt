pub mod Turns
pub mod Scans
pub mod Taken
pub mod Copied
