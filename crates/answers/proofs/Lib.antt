pub mod Lowest
pub mod Promises
