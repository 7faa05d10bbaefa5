pub mod Bytes
pub mod Figure
