pub mod Capacity
pub mod Products
