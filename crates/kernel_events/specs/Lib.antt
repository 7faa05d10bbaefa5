pub mod Harts
pub mod Possible
pub mod Reports
pub mod Same
