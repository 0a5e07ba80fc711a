-- The event types that the rules read (Client-Server API, Room Events), and the keys of state.
use Rattle.std.specs.Prelude.{ℕ, Bool, false, ◌&&◌, List, Option, Some, None, is_none, codes}
use Rattle.std.specs.Str.{bytes_eq}
use Rattle.mx_event.specs.declared.event.Event.{Event}

abbrev pub create_type : List ℕ
create_type = codes "m.room.create"

abbrev pub member_type : List ℕ
member_type = codes "m.room.member"

abbrev pub power_type : List ℕ
power_type = codes "m.room.power_levels"

abbrev pub join_rules_type : List ℕ
join_rules_type = codes "m.room.join_rules"

abbrev pub visibility_type : List ℕ
visibility_type = codes "m.room.history_visibility"

abbrev pub redaction_type : List ℕ
redaction_type = codes "m.room.redaction"

-- an event is of a type whatever its state key
abbrev pub is_of : List ℕ → Event → Bool
is_of kind e = bytes_eq e.kind kind

-- a redaction is a message event
abbrev pub is_redaction : Event → Bool
is_redaction e = is_of redaction_type e && is_none e.state_key

abbrev pub is_text : List ℕ → Option (List ℕ) → Bool
is_text text None = false
is_text text (Some found) = bytes_eq found text

-- a state event with this type and state key
abbrev pub has_key : List ℕ → List ℕ → Event → Bool
has_key kind key e = is_of kind e && is_text key e.state_key
