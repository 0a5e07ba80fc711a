pub mod Places
pub mod Reads
pub mod Rest
pub mod Ask
pub mod Unread
