pub mod Commands
pub mod Transact
