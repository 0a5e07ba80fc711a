pub mod Decision
pub mod Writes
pub mod Shown
pub mod Locks
pub mod Tells
pub mod Start
pub mod Decided
