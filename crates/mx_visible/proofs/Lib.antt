pub mod Joined
pub mod LastJoin
pub mod Marked
pub mod Parted
pub mod Walked
