pub mod Acts
pub mod Reads
