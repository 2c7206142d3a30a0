pub mod Word
pub mod Cells
