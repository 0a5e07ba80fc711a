-- What is looked up among the events of a stream.
use Rattle.std.specs.Prelude.{◌&&◌, ◌==◌, ℕ, Bool, List, [], ◌∷◌, Option, Some, None, filter, fold, nat_lt, if◌then◌else◌}
use Rattle.std.specs.Option.{is_some}
use Rattle.std.specs.BTreeMap.{insert_entry}
use Rattle.mx_ids.specs.declared.event_id.EventId.{EventId}
use Rattle.mx_ids.specs.declared.room_id.RoomId.{RoomId}
use Rattle.mx_event.specs.Kinds.{has_key, is_of, member_type}
use Rattle.mx_event.specs.Lawful.{same_room}
use Rattle.mx_event.specs.Shown.{named_id, names, position_of}
use Rattle.mx_event.specs.declared.event.Event.{Event}
use Rattle.mx_snapshot.specs.Lists.{room_cmp}

-- a state event of a room, with a type and a key
abbrev pub is_version : RoomId → List ℕ → List ℕ → Event → Bool
is_version room kind key e = same_room e.room room && has_key kind key e

abbrev pub versions : RoomId → List ℕ → List ℕ → List Event → List Event
versions room kind key es = filter (is_version room kind key) es

-- those that lie later than a position
abbrev pub later : ℕ → List Event → List Event
later last es = filter (λ e. nat_lt last (position_of e)) es

-- a member event of a room: a state event of the type of member events
abbrev pub is_member : RoomId → Event → Bool
is_member room e = same_room e.room room && (is_of member_type e && is_some e.state_key)

abbrev pub members : RoomId → List Event → List Event
members room es = filter (is_member room) es

-- a state event of a room, of any type and key
abbrev pub is_state : RoomId → Event → Bool
is_state room e = same_room e.room room && is_some e.state_key

abbrev pub states : RoomId → List Event → List Event
states room es = filter (is_state room) es

-- the event is a redaction of the earlier one at this position
abbrev pub redacts : ℕ → Event → Bool
redacts p e = names e p && nat_lt p e.id.at

-- the first of these events that redacts the one at this position
abbrev pub first_redaction : List Event → ℕ → Option Event
first_redaction [] p = None
first_redaction (e ∷ es) p = if redacts p e then Some e else first_redaction es p

-- the position of an event, or 0 where there is none
abbrev pub position_or_0 : Option Event → ℕ
position_or_0 None = 0
position_or_0 (Some e) = e.id.at

-- the user's member event
abbrev pub is_own : List ℕ → Event → Bool
is_own user e = has_key member_type user e

-- the room with an own event: in order of room, each with the user's last member event
abbrev pub with_own : List ℕ → List (RoomId × Event) → Event → List (RoomId × Event)
with_own user rooms e = if is_own user e then insert_entry room_cmp rooms e.room e else rooms

-- the rooms in which the user has a member event
abbrev pub rooms_of : List ℕ → List Event → List (RoomId × Event)
rooms_of user es = fold (with_own user) [] es

-- ---- what the code keeps of it

-- the position of the earlier event that a redaction names
abbrev pub earlier : ℕ → Option EventId → Option ℕ
earlier at None = None
earlier at (Some id) = if nat_lt id.at at then Some id.at else None

abbrev pub target : Event → Option ℕ
target e = earlier e.id.at (named_id e)

-- the first number where it isn't 0, else the second if it is wanted
abbrev pub first_or : ℕ → Bool → ℕ → ℕ
first_or first wanted by = if first == 0 && wanted then by else first

abbrev pub member_key : Event → Option (List ℕ)
member_key e = if is_of member_type e then e.state_key else None

abbrev pub place_of : RoomId × Event → RoomId × ℕ
place_of p = (p.0, p.1.id.at)

abbrev pub with_place : List ℕ → List (RoomId × ℕ) → Event → List (RoomId × ℕ)
with_place user rooms e = if is_own user e then insert_entry room_cmp rooms e.room e.id.at else rooms
