pub mod Members
pub mod Summaries
pub mod Summary
