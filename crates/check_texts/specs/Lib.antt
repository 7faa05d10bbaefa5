pub mod Explanations
pub mod Findings
pub mod Rooms
pub mod Turns
