pub mod Data
pub mod KnownKeys
pub mod Tests
