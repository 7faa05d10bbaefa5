pub mod Walks
mod Links
mod Pushing
pub mod Pushed
mod Removing
pub mod Removed
mod New
mod Flags
pub mod Grouping
pub mod Found
