pub mod Slots
pub mod Shells
pub mod Scripts
