pub mod Name
pub mod Files
pub mod Overlay
pub mod Listing
pub mod Place
