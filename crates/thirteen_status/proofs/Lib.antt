pub mod Bits
pub mod Celsius
