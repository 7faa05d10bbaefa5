pub mod Missing
pub mod Texts
