pub mod Parts
pub mod Explaining
