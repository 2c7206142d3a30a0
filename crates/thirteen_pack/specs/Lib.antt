pub mod Sound
pub mod Facts
pub mod Fits
pub mod SetUp
pub mod Sample
