pub mod ScriptRun
pub mod Turns
pub mod Plain
