pub mod Rows
pub mod Laid
pub mod Answers
