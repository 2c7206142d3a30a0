pub mod Requests
pub mod Exchanges
pub mod Broadcasts
