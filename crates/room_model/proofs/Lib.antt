pub mod Trees
pub mod Same
