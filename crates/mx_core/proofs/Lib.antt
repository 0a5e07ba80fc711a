pub mod Blocks
pub mod Covering
pub mod Histories
pub mod InPlace
mod Machines
pub mod Orders
pub mod Owns
pub mod Reached
mod Sound
