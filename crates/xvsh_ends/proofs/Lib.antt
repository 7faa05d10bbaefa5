pub mod Dues
pub mod Made
pub mod Meant
pub mod Strict
