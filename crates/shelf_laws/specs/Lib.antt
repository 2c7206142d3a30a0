pub mod Promises
pub mod Tables
pub mod Examples
