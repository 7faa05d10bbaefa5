pub mod Checked
pub mod OneScript
pub mod Reading
pub mod SmallLines
