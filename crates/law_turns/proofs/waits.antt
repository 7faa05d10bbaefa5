pub mod Freed
pub mod Turned
