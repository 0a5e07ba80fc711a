-- The texts of room ids and event ids of one server (Appendices, Room IDs and Event IDs).
use Rattle.std.specs.Prelude.{ℕ, ◌^◌, ◌<◌, ◌≤◌, Bool, false, ◌&&◌, nat_le, nat_lt, ◌==◌, if◌then◌else◌, List, [], ◌∷◌, ◌++◌, Option, Some, None, option_and_then}
use Rattle.std.specs.Str.{bytes_eq}
use Rattle.mx_ids.specs.Decimal.{numeral}
use Rattle.mx_ids.specs.Mark.{marked_at}
use Rattle.mx_ids.specs.declared.event_id.EventId.{EventId}
use Rattle.mx_ids.specs.declared.room_id.RoomId.{RoomId}

-- the one text of a room id at a server, whatever its numbers
unfoldable pub room_id_text : List ℕ → RoomId → List ℕ
room_id_text server room = 33 ∷ (numeral room.writer ++ 45 ∷ (numeral room.at ++ 58 ∷ server))

-- the writer is one of 16, and the position is below 2^48
abbrev pub IsRoomId : RoomId → Type 0
IsRoomId room = (room.writer ≤ 15) × (room.at < 2 ^ 48)

-- the one text of an event id at a server, whatever its number
unfoldable pub event_id_text : List ℕ → EventId → List ℕ
event_id_text server event = 36 ∷ (numeral event.at ++ 58 ∷ server)

-- the position is below 2^48
abbrev pub IsEventId : EventId → Type 0
IsEventId event = event.at < 2 ^ 48

-- What the readers find, on lists.

-- `:` and then the server
unfoldable pub is_server_part : List ℕ → List ℕ → Bool
is_server_part server [] = false
is_server_part server (c ∷ cs) = (c == 58) && bytes_eq cs server

-- the id of a room, by its writer, and by its position and what follows it
abbrev pub room_of : List ℕ → ℕ → ℕ × List ℕ → Option RoomId
room_of server writer p = if is_server_part server p.1 && nat_le writer 15 && nat_lt p.0 (2 ^ 48) then Some (record { writer = writer; at = p.0 }) else None

-- the room id of a server that a text spells, with each number at most `most`
unfoldable pub room_id_at : ℕ → List ℕ → List ℕ → Option RoomId
room_id_at most server text = option_and_then (λ (p : ℕ × List ℕ). option_and_then (room_of server p.0) (marked_at most 45 p.1)) (marked_at most 33 text)

-- the id of an event, by its position and what follows it
abbrev pub event_of : List ℕ → ℕ × List ℕ → Option EventId
event_of server p = if is_server_part server p.1 && nat_lt p.0 (2 ^ 48) then Some (record { at = p.0 }) else None

-- the event id of a server that a text spells, with its number at most `most`
unfoldable pub event_id_at : ℕ → List ℕ → List ℕ → Option EventId
event_id_at most server text = option_and_then (event_of server) (marked_at most 36 text)
