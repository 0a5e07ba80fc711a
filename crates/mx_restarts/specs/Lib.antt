pub mod InPlace
pub mod Kept
pub mod Restarts
