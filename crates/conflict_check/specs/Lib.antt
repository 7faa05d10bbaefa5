pub mod Names
pub mod Occurrences
pub mod Clear
pub mod Clash
