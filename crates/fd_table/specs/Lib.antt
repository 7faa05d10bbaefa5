pub mod Entries
pub mod Descriptors
pub mod Holders
