pub mod Calls
pub mod Rows
pub mod Promises
