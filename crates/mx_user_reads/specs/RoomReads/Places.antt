pub use Rattle.mx_room_reads.specs.Places.{has_room}
