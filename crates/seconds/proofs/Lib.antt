pub mod After
pub mod Flow
pub mod Places
