pub mod Bound
pub mod Fits
pub mod Integers
pub mod Soundness
pub mod Totals
