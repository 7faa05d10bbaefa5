mod Largest
mod Beginnings
mod Rooms
mod Names
mod Places
mod Linear
mod Parts
mod Growths
