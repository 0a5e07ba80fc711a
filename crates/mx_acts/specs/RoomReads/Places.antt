pub use Rattle.mx_user_reads.specs.RoomReads.Places.{has_room}
