pub mod WorkBytes
pub mod TurnBytes
pub mod More
pub mod Growing
pub mod RunFalls
pub mod PartFalls
pub mod StepFalls
pub mod Ending
pub mod Answering
mod Counted
