pub mod Check
pub mod Explain
pub mod Findings
pub mod Lacks
pub mod Room
pub mod Turns
pub mod Whys
pub mod Fixes
