pub mod Limits
pub mod RanOnce
pub mod Slots
