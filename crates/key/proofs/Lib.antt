pub mod Form
pub mod Words
pub mod Keys
