pub mod Delivered
pub mod Steps
pub mod Stops
pub mod Returns
pub mod Computed
pub mod Hot
pub mod Chatter
