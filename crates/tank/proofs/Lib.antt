pub mod Charge
pub mod Steps
