pub mod Sample
pub mod Broadcast
