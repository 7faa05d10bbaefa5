pub mod Before
pub mod Changes
pub mod Ends
pub mod Outputs
pub mod States
pub mod Traced
