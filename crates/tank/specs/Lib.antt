pub mod Charge
pub mod Tank
