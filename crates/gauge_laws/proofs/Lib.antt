pub mod Bits
pub mod Hundred
pub mod Minutes
pub mod Range
pub mod Words
