pub mod Changes
pub mod Counts
mod Alone
mod Searched
mod Kept
mod Naming
mod Queueing
mod Waking
mod Enough
mod Grouping
