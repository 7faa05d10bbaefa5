pub mod Contrast
pub mod Named
pub mod Pairs
pub mod Found
