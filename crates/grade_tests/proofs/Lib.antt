mod Folders
mod Putting
