pub mod Commands
pub mod Transact
pub mod Delivered
