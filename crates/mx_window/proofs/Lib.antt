pub mod Each
pub mod Intervals
pub mod Lasts
pub mod Sections
