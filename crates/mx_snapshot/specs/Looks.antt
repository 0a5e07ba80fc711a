-- Items that are found by their positions.
use Rattle.std.specs.Prelude.{ℕ, zero, suc, ◌++◌, Bool, List, [], ◌∷◌, Option, None, slice_get, map, option_map}
use Rattle.std.specs.Borrow.{Bor}
use Rattle.std.specs.Option.{option_to_list}
use Rattle.mx_ids.specs.declared.room_id.RoomId.{RoomId}
use Rattle.mx_window.specs.Lasts.{last_at, last_of}
use Rattle.mx_event.specs.declared.event.Event.{Event}

-- the item at a position from 1 on
abbrev pub at_position : {I : Type 0} → List I → ℕ → Option I
at_position items zero = None
at_position items (suc p) = slice_get items p

-- the items at some positions
abbrev pub looked : {I : Type 0} → List I → List ℕ → List I
looked items [] = []
looked items (p ∷ ps) = option_to_list (at_position items p) ++ looked items ps

-- the position of the last item that passes, or 0
abbrev pub last_position : {I : Type 0} → (I → ℕ) → (I → Bool) → List I → ℕ
last_position at test items = last_at at 0 (last_of test items)

abbrev pub with_room : RoomId → Event → RoomId × Event
with_room room e = (room, e)

-- rooms, each with the event at a position
abbrev pub own_looked : List Event → List (RoomId × ℕ) → List (RoomId × Event)
own_looked es [] = []
own_looked es (p ∷ ps) = option_to_list (option_map (with_room p.0) (at_position es p.1)) ++ own_looked es ps

-- the items behind references
abbrev pub all_now : {I : Type 0} → List (Bor I) → List I
all_now items = map (λ (b : Bor _). b.now) items

-- a room and an event behind a reference
abbrev pub own_now : RoomId × Bor Event → RoomId × Event
own_now p = (p.0, p.1.now)
