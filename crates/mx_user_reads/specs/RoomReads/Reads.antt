pub use Rattle.mx_room_reads.specs.Reads.{joined_rooms_said, one_event_said, room_members_said, room_state_said, state_content_said}
