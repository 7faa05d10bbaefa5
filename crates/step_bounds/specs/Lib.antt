pub mod Cost
pub mod Most
