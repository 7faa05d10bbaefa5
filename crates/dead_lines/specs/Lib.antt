pub mod Dead
pub mod Hints
