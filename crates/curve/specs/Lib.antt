pub mod Curve
pub mod Lawful
pub mod Reached
pub mod Promise
pub mod Worked
