pub mod Limits
pub mod PipeState
pub mod PipeCall
