pub mod CallsOn
pub mod Codes
pub mod End
pub mod Held
pub mod Place
pub mod State
pub mod Turn
pub mod View
