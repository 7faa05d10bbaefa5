pub mod Sums
pub mod Left
pub mod Spending
pub mod Programs
pub mod Shells
pub mod Scripts
