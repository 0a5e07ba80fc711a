pub mod Counts
pub mod Kept
pub mod Tallies
pub mod Tally
pub mod Unread
