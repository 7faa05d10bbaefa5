pub mod Running
pub mod Dead
pub mod Reasoned
