pub mod Pattern
pub mod Literal
pub mod Match
pub mod Places
pub mod States
