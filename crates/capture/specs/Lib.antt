pub mod Capture
pub mod Walk
