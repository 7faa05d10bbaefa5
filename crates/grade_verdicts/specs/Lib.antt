pub mod Agrees
pub mod Judged
pub mod Same
