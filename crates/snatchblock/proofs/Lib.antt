pub mod Bounds
pub mod Handed
