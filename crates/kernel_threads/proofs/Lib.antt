mod Closing
mod Sends
mod Users
