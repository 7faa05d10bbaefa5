pub mod Adding
pub mod Inside
pub mod Reading
pub mod NoNotes
pub mod OneList
pub mod Found
pub mod Saying
