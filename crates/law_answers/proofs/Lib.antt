mod Names
mod Puts
mod Readings
pub mod Meant
pub mod Agreeing
pub mod Statuses
pub mod Strictly
mod FromWords
pub mod Spent
mod Explored
mod Passed
