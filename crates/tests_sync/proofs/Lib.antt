pub mod ValidRooms
