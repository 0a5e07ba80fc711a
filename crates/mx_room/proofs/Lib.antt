mod Books
mod Earlier
mod Events
mod Finding
pub mod Lawful
pub mod Positions
mod Sending
pub mod Standing
pub mod Taking
pub mod Crosses
