pub mod Refused
pub mod Room
