pub mod Recent
pub mod Fits
