pub mod Choices
pub mod Named
