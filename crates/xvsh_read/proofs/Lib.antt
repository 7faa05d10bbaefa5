pub mod Begins
pub mod Consumed
pub mod Faults
pub mod Names
pub mod Parts
pub mod Places
pub mod Putting
