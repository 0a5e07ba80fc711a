mod Counting
mod Joining
mod Keeping
mod Restarting
