mod Alike
pub mod Answers
mod Spending
mod Told
