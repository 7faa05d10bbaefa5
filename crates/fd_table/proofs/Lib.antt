pub mod Lists
pub mod Holding
pub mod Counting
pub mod Free
