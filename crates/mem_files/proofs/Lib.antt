pub mod Places
pub mod Kept
pub mod Listed
pub mod Overlays
mod Worked
