pub mod Blocks
pub mod Buffer
mod Given
mod Said
