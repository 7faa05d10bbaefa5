pub mod Seen
pub mod Shows
pub mod Effect
pub mod Phases
pub mod Own
pub mod Shape
pub mod Part
pub mod Standing
