pub mod Known
pub mod Limits
