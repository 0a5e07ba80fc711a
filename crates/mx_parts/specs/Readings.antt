-- One room as a user's filter reads it, at the front of a stream's events.
use Rattle.std.specs.Prelude.{◌≡◌, ℕ, List, length}
use Rattle.mx_ids.specs.Ids.{room_id_text}
use Rattle.mx_ids.specs.User.{server_of}
use Rattle.mx_ids.specs.declared.room_id.RoomId.{RoomId}
use Rattle.mx_event.specs.Lawful.{of_room}
use Rattle.mx_event.specs.Valid.{IsValid}
use Rattle.mx_event.specs.declared.event.Event.{Event}
use Rattle.mx_folding.specs.Rooms.{Room}
use Rattle.mx_folding.specs.Sections as sections
use Rattle.mx_view.specs.Rooms.{Key, Sieve, room_of}
use Rattle.mx_filter.specs.Sieves.{sieve_of}
use Rattle.mx_parts.specs.declared.reading.Reading.{Reading}
use Rattle.mx_parts.specs.declared.window.Window.{Window}

-- the room's events
abbrev pub events_of : Reading → List Event
events_of v = of_room v.room.now v.events.now

-- the position at which events are judged and shown
abbrev pub front_of : Reading → ℕ
front_of v = length v.events.now

abbrev pub sieve : Reading → Sieve
sieve v = sieve_of (server_of v.user.now) v.filter.now.selection v.room.now

abbrev pub room_in : Reading → Room Event Key
room_in v = room_of (sieve v) v.user.now (events_of v)

-- the text is that of the room's id, and each room's list is valid
pub record IsRead (v : Reading) : Type 0 where
  pub text_is : v.room_text.now ≡ room_id_text (server_of v.user.now) v.room.now
  pub valid : (room : RoomId) → IsValid (of_room room v.events.now)

abbrev pub window_of : Window → sections.Window
window_of w = sections.window w.after w.limit w.low w.high
