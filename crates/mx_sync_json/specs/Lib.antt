pub mod Objects
pub mod Receipts
pub mod Groups
pub mod Keyed
pub mod Rooms
pub mod Replies
