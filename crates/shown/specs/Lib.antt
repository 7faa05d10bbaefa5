pub mod Codes
pub mod Shown
