pub mod Placing
pub mod Told
