-- The rooms of one writer as contracts see them: its own stores, and beside them the block that is about to be stored.
use Rattle.std.specs.Prelude.{◌≡◌, ℕ, ◌+◌, ◌<◌, ◌^◌, List, [], ◌∷◌, ◌++◌, length}
use Rattle.std.specs.List.{AllByRecursion}
use Rattle.mx_core.specs.History.{items_of, placed_from}
use Rattle.mx_core.specs.declared.history.Stored.{Stored}
use Rattle.mx_ids.specs.declared.room_id.RoomId.{RoomId}
use Rattle.mx_event.specs.Lawful.{of_room, placed_event}
use Rattle.mx_event.specs.declared.event.Event.{Event}

pub record Rooms : Type 0 where
  pub writer : ℕ
  -- the writer's own stores, in their order
  pub stores : List (Stored Event)
  -- the block that is ready, whose events have no position yet; empty where there is none
  pub pending : List Event

abbrev pub no_rooms : ℕ → Rooms
no_rooms writer = record { writer = writer; stores = []; pending = [] }

-- all events of the writer
abbrev pub events_of : Rooms → List Event
events_of b = items_of b.stores

-- the events of one room
abbrev pub room_events : Rooms → RoomId → List Event
room_events b room = of_room room (events_of b)

-- the pending block as it stands from a position on
abbrev pub placed_block : Rooms → ℕ → List Event
placed_block b first = placed_from placed_event first first b.pending

-- the rooms with the pending block stored from a position on
abbrev pub taken_in : Rooms → ℕ → Rooms
taken_in b first = record b { stores = b.stores ++ record { writer = b.writer; first = first; items = placed_block b first } ∷ []; pending = [] }

-- the pending block may stand from this position on: above all positions of the writer, and below 2^48
abbrev pub MayStand : Rooms → ℕ → Type 0
MayStand b first = AllByRecursion (λ (e : Event). e.id.at < first) (events_of b) × (0 < first) × (first + length b.pending < 2 ^ 48 + 1)

-- the same rooms; the pending block isn't spoken of
pub record SameRooms (old new : Rooms) : Type 0 where
  pub writer : new.writer ≡ old.writer
  pub stores : new.stores ≡ old.stores
