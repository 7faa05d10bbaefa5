pub mod Blocked
pub mod Deciding
pub mod Sleepers
pub mod Begins
pub mod Holders
pub mod Waiting
pub mod Never
pub mod Turns
