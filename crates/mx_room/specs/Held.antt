-- What a book of rooms holds, and what it says of them.
use Rattle.std.specs.Prelude.{◌≡◌, ℕ, ◌<◌, ◌==◌, List, [], ◌∷◌, ◌++◌, drop, length, map, slice_index_or, Option, Some, None, if◌then◌else◌}
use Rattle.std.specs.List.{AllByRecursion}
use Rattle.mx_ids.specs.declared.room_id.RoomId.{RoomId}
use Rattle.mx_core.specs.History.{placed_from}
use Rattle.mx_event.specs.Lawful.{placed_event}
use Rattle.mx_event.specs.declared.event.Event.{Event}
use Rattle.mx_auth.specs.Standing.{Standing}
use Rattle.mx_room.specs.declared.rooms.Room.{Room}
use Rattle.mx_room.specs.declared.txns.TxnIndex.{TxnIndex}
use Rattle.mx_room.specs.declared.txn_key.TxnKey.{TxnKey}
use Rattle.mx_room.specs.Admitting.{sent_in}
use Rattle.mx_room.specs.Books.{Rooms, events_of, room_events}
use Rattle.mx_room.specs.Creating.{IsNew}
use Rattle.mx_room.specs.Keys.{id_at, sent_at, txn_of}

-- a room without what is ready in it: the position at which it was created, and its events
abbrev pub Bare : Type 0
Bare = ℕ × List Event

abbrev pub bare : Room → Bare
bare r = (r.at, r.state.events)

-- the state of the room that was created at a position
abbrev pub state_at : ℕ → List Room → Option Standing
state_at at [] = None
state_at at (r ∷ rs) = if r.at == at then Some r.state else state_at at rs

-- the events of the room that was created at a position
abbrev pub events_at : ℕ → List Bare → List Event
events_at at [] = []
events_at at (r ∷ rs) = if r.0 == at then r.1 else events_at at rs

-- the events of a room: a book has the rooms of its own writer alone
abbrev pub events_in : ℕ → List Bare → RoomId → List Event
events_in writer rs room = if room.writer == writer then events_at room.at rs else []

-- a room stands at an index
pub record IsRoomAt (writer : ℕ) (rs : List Room) (room : RoomId) (i : ℕ) : Type 0 where
  pub within : i < length rs
  pub writes : room.writer ≡ writer
  pub here : (d : Room) → (slice_index_or rs i d).at ≡ room.at
  pub holds : (d : Room) → events_in writer (map bare rs) room ≡ (slice_index_or rs i d).state.events

-- a room with a block more, which begins at a position
abbrev pub after_block : ℕ → List Event → Room → Room
after_block first es r = record { at = r.at; state = record { events = r.state.events ++ placed_from placed_event first first es; ready = [] } }

-- the rooms stand in the order of the positions at which they were created
abbrev pub Rises : List Bare → Type 0
Rises [] = Unit {0}
Rises (r ∷ rs) = AllByRecursion (λ (s : Bare). r.0 < s.0) rs × Rises rs

-- a room's first event stands at the position at which the room was created, which isn't 0
pub record Opens (r : Bare) : Type 0 where
  pub placed : 0 < r.0
  pub first : Event
  pub begins : r.1 ≡ first ∷ drop 1 r.1
  pub here : first.id.at ≡ r.0

-- an event waits for its position: it is ready in its room, and the index of transactions is settled
pub record OneWaits (writer : ℕ) (rs : List Room) (txns : TxnIndex) (key : Option TxnKey) (e : Event) : Type 0 where
  pub writes : e.room.writer ≡ writer
  pub room : (s : Standing) × (state_at e.room.at rs ≡ Some s) × (s.ready ≡ e ∷ [])
  pub named : txn_of key ≡ e.txn
  pub settled : txns.last ≡ None
  pub first : sent_at txns key ≡ None

-- the pending block waits for its position; `spare` says that one room more takes no memory
abbrev pub Waits : ℕ → List Room → TxnIndex → Option TxnKey → Option Standing → Type 0 → List Event → Type 0
Waits writer rs txns key (Some s) spare es = (s.events ≡ []) × (s.ready ≡ es) × AllByRecursion (IsNew writer) es × spare
Waits writer rs txns key None spare [] = Unit {0}
Waits writer rs txns key None spare (e ∷ []) = OneWaits writer rs txns key e
Waits writer rs txns key None spare (e ∷ f ∷ es) = ⊥

-- what the fields of a book say of its rooms
pub record IsBook (writer : ℕ) (rs : List Room) (txns : TxnIndex) (key : Option TxnKey) (fresh : Option Standing) (spare : Type 0) (b : Rooms) : Type 0 where
  pub writes : writer ≡ b.writer
  pub rises : Rises (map bare rs)
  pub opens : AllByRecursion Opens (map bare rs)
  pub same : (room : RoomId) → events_in writer (map bare rs) room ≡ room_events b room
  pub sent : (k : TxnKey) → id_at txns k ≡ sent_in (Some k.txn) (events_of b)
  pub waits : Waits writer rs txns key fresh spare b.pending
