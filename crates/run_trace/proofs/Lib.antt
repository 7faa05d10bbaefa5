mod Adds
mod Runs
