pub mod Shelf
pub mod Ratios
