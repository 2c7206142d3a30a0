pub mod Transact
