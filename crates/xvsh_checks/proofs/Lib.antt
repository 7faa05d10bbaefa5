pub mod Adding
mod Harmless
pub mod Nothing
pub mod Reasoned
pub mod Fixed
