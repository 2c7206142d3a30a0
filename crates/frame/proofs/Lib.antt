pub mod Replies
pub mod Messages
pub mod Marks
