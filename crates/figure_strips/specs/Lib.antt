pub mod Sheets
pub mod Spans
