mod Weights
pub mod Apart
pub mod Reordered
