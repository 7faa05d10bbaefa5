mod Ways
mod ReadEnds
mod WriteEnds
mod OpenEnds
pub mod Outcomes
mod Refusals
mod Marks
