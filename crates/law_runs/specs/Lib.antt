pub mod Consistent
pub mod Seen
pub mod Walks
pub mod Leaving
pub mod Awake
pub mod GoingOn
pub mod Paid
