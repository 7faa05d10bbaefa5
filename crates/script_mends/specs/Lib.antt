pub mod Lines
pub mod Mends
pub mod Mended
pub mod Rounds
