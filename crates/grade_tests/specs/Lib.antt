pub mod Loads
pub mod Paths
pub mod Status
pub mod Tasks
