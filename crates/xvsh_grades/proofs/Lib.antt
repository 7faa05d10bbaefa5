mod Books
mod Growing
mod Joined
mod Judged
mod Own
