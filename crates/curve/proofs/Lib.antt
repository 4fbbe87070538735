pub mod Totals
pub mod Curves
pub mod Windows
pub mod Kept
pub mod Places
pub mod Dispatched
pub mod Worked
