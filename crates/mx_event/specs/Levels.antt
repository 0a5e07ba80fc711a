-- Power levels (Client-Server API, m.room.power_levels).
use Rattle.std.specs.Prelude.{ℕ, ℤ, pos, List, [], Bool, Option, Some, None, is_some, option_and_then, unwrap_or, if◌then◌else◌, codes}
use Rattle.mx_json.specs.Fields.{field, int_at}
use Rattle.mx_json.specs.declared.value.Json.{Json}
use Rattle.mx_event.specs.Kinds.{power_type, is_text}
use Rattle.mx_event.specs.State.{standing_content, creator}
use Rattle.mx_event.specs.declared.event.Event.{Event}

-- the standing power levels
abbrev pub powers : List Event → Option Json
powers es = standing_content power_type [] es

-- the level at a key, or its default
abbrev pub level_at : List ℕ → ℤ → Option Json → ℤ
level_at key otherwise content = unwrap_or (option_and_then (int_at key) content) otherwise

-- the entry of a map of levels
abbrev pub entry_at : List ℕ → List ℕ → Json → Option ℤ
entry_at map key content = option_and_then (int_at key) (field map content)

abbrev pub entry_of : List ℕ → List ℕ → Option Json → Option ℤ
entry_of map key content = option_and_then (entry_at map key) content

-- the level of a user: its entry, or that of users without one; before there are power levels the creator has 100
abbrev pub level_in : List ℕ → List Event → Option Json → ℤ
level_in user es None = if is_text user (creator es) then pos 100 else pos 0
level_in user es (Some content) = unwrap_or (entry_at (codes "users") user content) (level_at (codes "users_default") (pos 0) (Some content))

abbrev pub level_of : List ℕ → List Event → ℤ
level_of user es = level_in user es (powers es)

-- the level that inviting, kicking, banning and redacting need
abbrev pub invite_level : List Event → ℤ
invite_level es = level_at (codes "invite") (pos 0) (powers es)

abbrev pub kick_level : List Event → ℤ
kick_level es = level_at (codes "kick") (pos 50) (powers es)

abbrev pub ban_level : List Event → ℤ
ban_level es = level_at (codes "ban") (pos 50) (powers es)

abbrev pub redact_level : List Event → ℤ
redact_level es = level_at (codes "redact") (pos 50) (powers es)

-- the level that an event without an entry of its type needs
abbrev pub default_level : Bool → List Event → ℤ
default_level is_state es = if is_state then level_at (codes "state_default") (pos 50) (powers es) else level_at (codes "events_default") (pos 0) (powers es)

-- the level that an event needs
abbrev pub needed_level : Event → List Event → ℤ
needed_level e es = unwrap_or (entry_of (codes "events") e.kind (powers es)) (default_level (is_some e.state_key) es)
