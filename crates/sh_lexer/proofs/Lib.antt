pub mod Scan
pub mod Unique
pub mod Exists
