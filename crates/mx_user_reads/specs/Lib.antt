pub mod Filters
pub mod Rules
pub mod Told
pub mod Values
pub mod RoomReads
