pub mod Answer
pub mod Filled
pub mod Alike
