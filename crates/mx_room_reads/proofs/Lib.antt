mod Listed
mod Placed
mod Seen
mod Joins
