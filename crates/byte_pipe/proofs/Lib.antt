pub mod Order
pub mod Within
