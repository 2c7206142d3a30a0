pub mod Histories
pub mod Struck
pub mod Promises
pub mod Examples
