pub mod Linked
pub mod Following
pub mod Stalled
pub mod Middle
pub mod Safe
