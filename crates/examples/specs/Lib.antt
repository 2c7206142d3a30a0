pub mod Examples
pub mod Learned
pub mod Broadcasts
pub mod Minutes
pub mod Charger
pub mod Thirteen
