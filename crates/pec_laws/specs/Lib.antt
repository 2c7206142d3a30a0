pub mod Faults
pub mod Places
