pub mod Served
pub mod Outcome
