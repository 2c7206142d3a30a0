pub mod Minute
pub mod Kept
pub mod Promises
pub mod Examples
