pub use Rattle.mx_acts.specs.RoomReads.Places.{has_room}
