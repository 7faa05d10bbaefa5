mod Beginning
mod Placing
mod Searched
mod Spelling
