pub mod Charger
