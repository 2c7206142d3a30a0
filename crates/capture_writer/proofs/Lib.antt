pub mod Given
pub mod Written
