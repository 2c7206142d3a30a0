pub mod SetUp
pub mod Facts
pub mod Fits
pub mod Promises
