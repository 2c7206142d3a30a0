pub mod Entries
pub mod After
pub mod Shapes
pub mod Rooms
pub mod Whole
pub mod Answers
pub mod Told
