pub mod Arith
pub mod Lists
pub mod Low
pub mod Steps
