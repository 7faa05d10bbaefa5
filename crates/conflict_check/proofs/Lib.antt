pub mod FirstClash
pub mod Listed
pub mod Sharing
