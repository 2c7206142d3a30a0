pub mod Laws
pub mod Minutes
