pub mod Codes
pub mod Boots
pub mod Events
pub mod Ranges
pub mod Reports
pub mod Seats
pub mod Turns
