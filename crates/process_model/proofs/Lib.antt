pub mod Counts
pub mod Start
pub mod Finished
mod Worked
