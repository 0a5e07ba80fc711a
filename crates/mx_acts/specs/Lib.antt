pub mod Acts
pub mod Reads
pub mod UserReads
pub mod RoomReads
