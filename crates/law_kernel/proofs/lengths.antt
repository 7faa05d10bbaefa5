mod Asleep
mod Falling
mod Lengths
mod Rooms
mod Filling
pub mod Long
