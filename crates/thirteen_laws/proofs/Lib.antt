pub mod Rows
pub mod Host
pub mod Sound
pub mod Words
pub mod Exchanges
pub mod Since
pub mod Chatter
