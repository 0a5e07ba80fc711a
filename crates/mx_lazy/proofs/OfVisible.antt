pub mod Joined
pub mod LastJoin
pub mod Marked
