pub mod Areas
pub mod Stores
