pub mod Bits
pub mod Difference
pub mod Every
pub mod Orbit
pub mod Theorems
pub mod Words
pub mod Xor
pub mod Zero
