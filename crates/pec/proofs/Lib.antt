pub mod Bounds
pub mod Join
pub mod Loops
pub mod Table
