pub mod Sound
pub mod Facts
pub mod Fits
pub mod Kept
pub mod Discharge
pub mod Choice
