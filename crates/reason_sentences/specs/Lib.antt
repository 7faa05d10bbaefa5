pub mod Sentences
pub mod Whys
pub mod Ways
