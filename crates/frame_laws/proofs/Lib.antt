pub mod Requests
pub mod Replies
pub mod Broadcasts
