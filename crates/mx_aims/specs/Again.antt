-- What the drafts of one store's events ask.
use Rattle.std.specs.Prelude.{ℕ, ◌<◌, Bool, true, false, List, [], ◌∷◌, map, nat_lt}
use Rattle.mx_event.specs.declared.draft.Draft.{Draft}
use Rattle.mx_aims.specs.Plans.{Plan, One, Block}

-- one draft, of a room with a position
abbrev pub is_one : List Draft → Bool
is_one (d ∷ []) = nat_lt 0 d.room.at
is_one ds = false

-- without its room
abbrev pub unplaced : Draft → Draft
unplaced d = record d { room = record { writer = 0; at = 0 } }

-- an event, or a room with its first events
abbrev pub plan_if : Bool → List Draft → Plan
plan_if true (d ∷ ds) = One d
plan_if b ds = Block (map unplaced ds)

abbrev pub plan_by : List Draft → Plan
plan_by ds = plan_if (is_one ds) ds
