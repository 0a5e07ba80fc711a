pub mod Data
pub mod Entries
pub mod Tags
pub mod Values
