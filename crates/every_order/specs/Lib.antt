pub mod Rest
pub mod Known
