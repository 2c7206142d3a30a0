pub mod Entries
pub mod Rooms
pub mod One
pub mod Series
pub mod Worked
