pub mod Timers
pub mod Sound
pub mod Fits
pub mod Elapsed
pub mod Charge
pub mod Sent
