pub mod Reported
pub mod SharedWays
mod Shared
