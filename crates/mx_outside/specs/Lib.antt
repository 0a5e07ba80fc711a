pub mod Causes
pub mod Moves
pub mod Calls
pub mod Named
pub mod Readings
pub mod Accepts
pub mod Starts
pub mod Ports
