pub mod Codes
pub mod Limits
pub mod Line
pub mod Script
