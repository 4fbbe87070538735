pub mod Sizes
pub mod Rings
pub mod Listed
pub mod Kinds
pub mod Switches
pub mod Tables
pub mod Places
pub mod Recalls
