pub mod Rooms
pub mod Choice
