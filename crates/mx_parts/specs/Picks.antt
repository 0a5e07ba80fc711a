-- Which events of a room's state are looked at for the state part.
use Rattle.std.specs.Prelude.{◌≡◌, ℕ, Bool, true, false, not, ◌&&◌, cond, List, filter, nat_lt}
use Rattle.mx_event.specs.Kinds.{is_of, member_type}
use Rattle.mx_event.specs.declared.event.Event.{Event}
use Rattle.mx_folding.specs.Parts.{state_list}
use Rattle.mx_folding.specs.Rooms.{Room}
use Rattle.mx_lazy.specs.declared.picker.Pick.{Pick}
use Rattle.mx_lazy.specs.declared.picker.Pick.TheVariants as kind
use Rattle.mx_view.specs.Rooms.{Key}
use Rattle.mx_lazy.specs.Picks.{names, picked}
use Rattle.mx_lazy.specs.declared.picker.Picker.{Picker}
use Rattle.mx_parts.specs.Readings.{events_of, sieve}
use Rattle.mx_lazy.specs.State.Standing.{stands}
use Rattle.mx_parts.specs.Under.{is_under}
use Rattle.mx_parts.specs.declared.reading.Reading.{Reading}
use Rattle.mx_parts.specs.declared.under_keys.StateKey.{StateKey}

-- the whole state, or of a later part where nobody is named what lies after its position
abbrev pub states_by : Room Event Key → List Event → Bool → Pick → ℕ → List Event
states_by r es named kind.New q = state_list r es q
states_by r es named (kind.Later from since base redundant stayed) q =
    cond named (state_list r es q) (filter (λ (e : Event). nat_lt from e.id.at) (state_list r es q))

-- behind which position its events lie
abbrev pub start_by : Bool → Pick → ℕ
start_by named kind.New = 0
start_by named (kind.Later from since base redundant stayed) = cond named 0 from

-- the event is picked, and the state filter passes it
unfoldable pub is_kept_by : Reading → Picker → Event → Bool
is_kept_by v p e = picked p e && (sieve v).keeps e

-- and it stands in the state at q
unfoldable pub is_sent_by : Reading → Picker → ℕ → Event → Bool
is_sent_by v p q e = is_kept_by v p e && stands (events_of v) q e

-- it is kept, and doesn't lie after a position
unfoldable pub is_early_by : Reading → Picker → ℕ → Event → Bool
is_early_by v p from e = is_kept_by v p e && not (nat_lt from e.id.at)

-- whatever is kept and doesn't lie after a position has one of the keys
abbrev pub Covers : Reading → Picker → ℕ → List StateKey → Type 0
Covers v p from keys = (e : Event) → nat_lt from e.id.at ≡ false → is_kept_by v p e ≡ true → is_under keys e ≡ true

-- a member event of a named user has one of the keys
abbrev pub NamesAll : Picker → List StateKey → Type 0
NamesAll p keys = (e : Event) → (is_of member_type e && names p e) ≡ true → is_under keys e ≡ true

abbrev pub key_pair : StateKey → Key
key_pair k = (k.kind.now, k.key.now)

abbrev pub sender_pair : Event → Key
sender_pair e = (member_type, e.sender)

abbrev pub hero_pair : List ℕ → Key
hero_pair hero = (member_type, hero)
