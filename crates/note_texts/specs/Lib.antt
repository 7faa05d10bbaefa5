pub mod Sentences
pub mod Marks
pub mod Texts
pub mod Explained
