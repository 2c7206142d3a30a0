pub mod Check
pub mod Steps
