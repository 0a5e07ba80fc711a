-- What holds of an index: it finds just what the plain definitions find, at each key.
use Rattle.std.specs.Prelude.{◌≡◌, ℕ, List, length, map, slice_index_or}
use Rattle.mx_ids.specs.declared.room_id.RoomId.{RoomId}
use Rattle.mx_event.specs.Lawful.{of_room}
use Rattle.mx_event.specs.Shown.{position_of}
use Rattle.mx_event.specs.declared.event.Event.{Event}
use Rattle.mx_snapshot.specs.Events.{versions, members, states, first_redaction, position_or_0, rooms_of, place_of}
use Rattle.mx_snapshot.specs.Lists.{room_at, version_at, own_at}
use Rattle.mx_snapshot.specs.declared.event_index.EventIndex.{EventIndex}

pub record IsIndexed (index : EventIndex) (es : List Event) : Type 0 where
  pub rooms : (room : RoomId) → room_at index.rooms room ≡ map position_of (of_room room es)
  pub members : (room : RoomId) → room_at index.members room ≡ map position_of (members room es)
  pub states : (room : RoomId) → room_at index.states room ≡ map position_of (states room es)
  pub versions : (room : RoomId) (kind key : List ℕ) → version_at index.versions room kind key ≡ map position_of (versions room kind key es)
  pub own : (user : List ℕ) → own_at index.own user ≡ map place_of (rooms_of user es)
  pub firsts : (p : ℕ) → slice_index_or index.firsts.items p 0 ≡ position_or_0 (first_redaction es p)
  pub marks : length index.firsts.items ≡ length es
