pub mod All
pub mod Plain
pub mod Rooms
pub mod Turns
pub mod OneRoom
