pub mod Exact
pub mod Walked
pub mod Read
pub mod Writes
