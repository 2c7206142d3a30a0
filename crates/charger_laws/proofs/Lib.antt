pub mod Cases
pub mod Laws
pub mod Exchanges
pub mod Silence
pub mod Alarms
pub mod Status
pub mod Last
pub mod Chatter
