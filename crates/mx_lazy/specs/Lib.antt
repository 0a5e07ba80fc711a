pub mod Members
pub mod Summaries
pub mod Stays
pub mod Picks
pub mod State
pub mod OfVisible
