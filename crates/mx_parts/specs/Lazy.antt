pub mod Members
pub mod Picks
pub mod Summaries
