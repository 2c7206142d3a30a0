pub mod Conditions
pub mod Start
