pub mod Told
pub mod Written
pub mod Settings
pub mod Words
pub mod Spending
pub mod Unless
