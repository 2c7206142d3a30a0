pub mod Complete
pub mod Served
pub mod Theorems
