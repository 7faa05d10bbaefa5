pub mod Endings
pub mod Jobs
pub mod Marks
pub mod Passed
