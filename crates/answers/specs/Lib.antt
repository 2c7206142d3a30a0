pub mod Conditions
pub mod Lowest
pub mod Promises
