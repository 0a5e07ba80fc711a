pub mod Kept
pub mod Lawfully
pub mod Measure
pub mod Ordered
pub mod Places
pub mod Stays
pub mod Texts
