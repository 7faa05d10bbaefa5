pub mod Codes
pub mod State
pub mod Turn
pub mod View
