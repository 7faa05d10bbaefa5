pub mod Known
mod Sames
pub mod Shared
