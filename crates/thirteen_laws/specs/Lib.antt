pub mod Events
pub mod Rows
pub mod Promises
pub mod Since
pub mod Chatter
