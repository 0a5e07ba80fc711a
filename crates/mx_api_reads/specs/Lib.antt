pub mod Asked
pub mod Markers
pub mod Messages
pub mod Reads
pub mod Routes
