pub mod Answered
pub mod Ends
pub mod Holding
pub mod Keeping
pub mod Lines
pub mod Parts
pub mod Places
