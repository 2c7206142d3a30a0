pub mod Pec
pub mod Table
pub mod Messages
