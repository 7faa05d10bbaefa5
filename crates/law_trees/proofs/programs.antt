pub mod Giving
mod Teeing
pub mod Next
pub mod Fitting
pub mod Work
pub mod Counting
pub mod Search
pub mod Keeps
pub mod Waiting
pub mod Chunks
pub mod Taming
pub mod Shrinking
pub mod Framing
pub mod Exiting
pub mod Unused
pub mod Holding
pub mod Refusing
pub mod Elsewhere
pub mod Calling
pub mod Firm
pub mod Small
pub mod Taking
pub mod Reading
pub mod FileReading
pub mod Timely
pub mod Unrefused
mod Worked
