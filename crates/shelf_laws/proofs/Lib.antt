pub mod Cases
pub mod Totals
pub mod Lowest
pub mod Answers
pub mod Order
pub mod Tables
pub mod Figures
pub mod Examples
