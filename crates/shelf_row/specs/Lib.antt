pub mod Rows
pub mod Step
