pub mod Links
pub mod Sets
