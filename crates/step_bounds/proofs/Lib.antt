mod Exec
pub mod Growing
mod Costs
mod Lines
mod Grown
