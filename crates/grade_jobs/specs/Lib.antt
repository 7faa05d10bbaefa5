pub mod Ways
pub mod Judges
