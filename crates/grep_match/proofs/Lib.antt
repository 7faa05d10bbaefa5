pub mod Fitting
pub mod Leading
pub mod LiteralSearch
pub mod Passing
pub mod Pieces
pub mod Searching
pub mod Stepping
mod Worked
