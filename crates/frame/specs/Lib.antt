pub mod Transactions
pub mod Broadcasts
