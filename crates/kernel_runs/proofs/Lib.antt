mod OneReport
mod Stopping
mod Turning
pub mod Ran
