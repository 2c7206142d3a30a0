pub mod Tags
pub mod Rows
pub mod Lengths
pub mod Names
pub mod Entries
pub mod Shift
