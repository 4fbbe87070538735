pub mod Layers
pub mod Laid
pub mod Layering
pub mod Under
