pub mod Chatter
pub mod Idle
pub mod Examples
