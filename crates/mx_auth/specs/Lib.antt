pub mod Entries
pub mod Kept
pub mod Placing
pub mod Standing
