-- What redaction keeps of an event (Room Version 11, Redactions): all but the content, and of the content the keys of its type.
use Rattle.std.specs.Prelude.{ℕ, List, [], ◌∷◌, Bool, ◌&&◌, Option, Some, None, option_map, if◌then◌else◌, codes}
use Rattle.std.specs.List.{list_any, filter_map}
use Rattle.std.specs.Str.{bytes_eq}
use Rattle.mx_json.specs.Fields.{field, members_of}
use Rattle.mx_json.specs.declared.members.Member.{Member}
use Rattle.mx_json.specs.declared.value.Json.{Json}
use Rattle.mx_json.specs.declared.value.Json.TheVariants as json
use Rattle.mx_event.specs.Kinds.{create_type, member_type, power_type, join_rules_type, visibility_type, redaction_type}
use Rattle.mx_event.specs.declared.event.Event.{Event}

-- the types of whose content some keys are kept, with these keys
abbrev pub kept : List (List ℕ × List (List ℕ))
kept =
    (member_type, codes "membership" ∷ codes "join_authorised_via_users_server" ∷ [])
    ∷ (join_rules_type, codes "join_rule" ∷ codes "allow" ∷ [])
    ∷ (power_type, codes "ban" ∷ codes "events" ∷ codes "events_default" ∷ codes "invite" ∷ codes "kick" ∷ codes "redact" ∷ codes "state_default" ∷ codes "users" ∷ codes "users_default" ∷ [])
    ∷ (visibility_type, codes "history_visibility" ∷ [])
    ∷ (redaction_type, codes "redacts" ∷ [])
    ∷ []

abbrev pub is_kept : List ℕ → List ℕ → Bool
is_kept kind key = list_any (λ (row : List ℕ × List (List ℕ)). bytes_eq row.0 kind && list_any (λ k. bytes_eq k key) row.1) kept

-- of the `third_party_invite` of a member event its `signed` is kept, and nothing where it has none
abbrev pub is_invite_of_third_party : List ℕ → List ℕ → Bool
is_invite_of_third_party kind key = bytes_eq kind member_type && bytes_eq key (codes "third_party_invite")

abbrev pub only_signed : List ℕ → Json → Member Json
only_signed key signed = record { key = key; value = json.Object (record { key = codes "signed"; value = signed } ∷ []) }

-- what is kept of one member of a content
abbrev pub kept_member : List ℕ → Member Json → Option (Member Json)
kept_member kind m =
    if is_invite_of_third_party kind m.key then option_map (only_signed m.key) (field (codes "signed") m.value) else (
    if is_kept kind m.key then Some m else None)

-- all is kept of the content of a create event
abbrev pub redacted_content : List ℕ → Json → Json
redacted_content kind content = if bytes_eq kind create_type then content else json.Object (filter_map (kept_member kind) (members_of content))

abbrev pub redacted : Event → Event
redacted e = record e { content = redacted_content e.kind e.content }
