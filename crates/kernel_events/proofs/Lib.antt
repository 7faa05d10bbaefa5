mod Keeping
mod Opened
