pub mod Seconds
pub mod Promises
