pub mod Numberings
pub mod Entries
pub mod Tables
pub mod Opening
pub mod Calls
pub mod Acted
pub mod Still
pub mod Turns
