pub mod Passing
pub mod Resting
pub mod Last
pub mod Knowing
