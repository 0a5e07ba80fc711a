mod Batches
pub mod Crosses
mod Cutting
mod Making
mod Ones
mod Pieces
mod Sent
mod Taking
mod Wrongs
