-- Events under some state keys.
use Rattle.std.specs.Prelude.{ℕ, Bool, List, [], Option, Some, None, map, fold}
use Rattle.std.specs.BTreeMap.{BTreeMap, insert_entry}
use Rattle.std.specs.Borrow.{Bor}
use Rattle.std.specs.List.{list_any}
use Rattle.std.specs.Ordering.{nat_cmp}
use Rattle.mx_window.specs.Windows.{between}
use Rattle.mx_event.specs.Kinds.{has_key}
use Rattle.mx_event.specs.Shown.{position_of}
use Rattle.mx_event.specs.State.{standing}
use Rattle.mx_event.specs.declared.event.Event.{Event}
use Rattle.mx_parts.specs.declared.under_keys.StateKey.{StateKey}

-- the event has one of the keys
abbrev pub is_under : List StateKey → Event → Bool
is_under keys e = list_any (λ (k : StateKey). has_key k.kind.now k.key.now e) keys

-- ---- what the code does

abbrev pub put_found : List (ℕ × Event) → Option Event → List (ℕ × Event)
put_found found None = found
put_found found (Some e) = insert_entry nat_cmp found e.id.at e

-- with the event that stands under a key at a position
abbrev pub put_standing : List Event → ℕ → List (ℕ × Event) → StateKey → List (ℕ × Event)
put_standing es q found k = put_found found (standing k.kind.now k.key.now (between position_of 0 q es))

abbrev pub all_standing : List Event → ℕ → List StateKey → List (ℕ × Event)
all_standing es q keys = fold (put_standing es q) [] keys

abbrev pub found_now : ℕ × Bor Event → ℕ × Event
found_now p = (p.0, p.1.now)

abbrev pub all_found : BTreeMap ℕ (Bor Event) → List (ℕ × Event)
all_found m = map found_now m.entries

abbrev pub event_in : ℕ × Event → Event
event_in p = p.1
