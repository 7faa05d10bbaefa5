pub mod Others
pub mod Turned
pub mod Safe
