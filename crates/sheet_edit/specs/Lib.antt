pub mod Edit
pub mod Tests
