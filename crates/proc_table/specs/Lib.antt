pub mod Slots
pub mod Calls
pub mod Channels
pub mod Heads
pub mod Queues
pub mod Searched
pub mod Answers
