-- The entries of maps of levels, and which changes of them pass a sender's level.
use Rattle.std.specs.Prelude.{ℕ, ℤ, List, [], Bool, Option, option_map, option_and_then, unwrap_or, codes}
use Rattle.std.specs.List.{list_any}
use Rattle.std.specs.Str.{bytes_eq}
use Rattle.mx_json.specs.Fields.{int_at, int_of, members_of}
use Rattle.mx_json.specs.declared.members.Member.{Member}
use Rattle.mx_json.specs.declared.value.Json.{Json}
use Rattle.mx_event.specs.Changes.{exceeds_level, exceeds_user_level}
use Rattle.mx_auth.specs.declared.changes.LevelMap.{LevelMap}
use Rattle.mx_auth.specs.declared.changes.LevelMap.TheVariants.{Events, Notifications, Users}

-- the key of power levels at which a map of levels stands
abbrev pub map_key : LevelMap → List ℕ
map_key Events = codes "events"
map_key Notifications = codes "notifications"
map_key Users = codes "users"

-- a change of an entry of a map exceeds the level of the sender
abbrev pub exceeds : LevelMap → ℤ → List ℕ → List ℕ → Option ℤ → Option ℤ → Bool
exceeds Events level sender key = exceeds_level level
exceeds Notifications level sender key = exceeds_level level
exceeds Users level sender key = exceeds_user_level level (bytes_eq key sender)

-- the members of a map, where it is there
abbrev pub members_in : Option Json → List (Member Json)
members_in map = unwrap_or (option_map members_of map) []

-- the entry at a key
abbrev pub int_in : List ℕ → Option Json → Option ℤ
int_in key map = option_and_then (int_at key) map

-- a test of a key with its old and its new level
abbrev pub Test : Type 0
Test = List ℕ → Option ℤ → Option ℤ → Bool

-- an entry of the old map passes
abbrev pub any_old : Test → Option Json → List (Member Json) → Bool
any_old test new entries = list_any (λ (m : Member Json). test m.key (int_of m.value) (int_in m.key new)) entries

-- an entry of the new map passes
abbrev pub any_new : Test → Option Json → List (Member Json) → Bool
any_new test old entries = list_any (λ (m : Member Json). test m.key (int_in m.key old) (int_of m.value)) entries
