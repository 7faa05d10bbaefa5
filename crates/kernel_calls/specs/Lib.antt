pub mod Indexed
pub mod Placed
pub mod Status
pub mod Runnable
pub mod FileOf
