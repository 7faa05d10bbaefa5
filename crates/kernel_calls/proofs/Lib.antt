mod Copied
mod Indexing
mod Listing
mod Names
mod Places
mod Shown
mod InUse
mod Turns
