pub mod Grep
pub mod Head
pub mod Lines
pub mod NameSets
pub mod Program
pub mod Runs
pub mod Wc
pub mod Words
