pub mod Sessions
pub mod Outcomes
