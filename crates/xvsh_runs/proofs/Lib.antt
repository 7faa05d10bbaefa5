mod Clear
mod Events
mod Harts
pub mod Moved
pub mod Prepared
pub mod Written
