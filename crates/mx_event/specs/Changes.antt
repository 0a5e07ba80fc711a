-- Power levels that an event sets (Room Version 11, Authorization rules): their form, and what a sender may change.
use Rattle.std.specs.Prelude.{ℕ, ℤ, int_lt, int_le, List, [], ◌∷◌, ◌++◌, Bool, true, false, not, ◌&&◌, ◌||◌, Option, Some, None, is_some, option_map, unwrap_or, codes}
use Rattle.std.specs.List.{list_all, list_any}
use Rattle.std.specs.Ordering.{int_eq}
use Rattle.std.specs.Str.{bytes_eq}
use Rattle.mx_ids.specs.User.{is_user_id_text}
use Rattle.mx_json.specs.Fields.{field, int_at, int_of, is_object, members_of}
use Rattle.mx_json.specs.Keys.{keys_of}
use Rattle.mx_json.specs.declared.members.Member.{Member}
use Rattle.mx_json.specs.declared.value.Json.{Json}
use Rattle.mx_event.specs.Levels.{entry_at}

abbrev pub scalars : List (List ℕ)
scalars = codes "users_default" ∷ codes "events_default" ∷ codes "state_default" ∷ codes "ban" ∷ codes "kick" ∷ codes "redact" ∷ codes "invite" ∷ []

abbrev pub is_int : Json → Bool
is_int j = is_some (int_of j)

-- nothing, or what passes
abbrev pub is_none_or : (Json → Bool) → Option Json → Bool
is_none_or passes None = true
is_none_or passes (Some j) = passes j

-- an object of whole numbers
abbrev pub maps_to_ints : Json → Bool
maps_to_ints j = is_object j && list_all (λ (m : Member Json). is_int m.value) (members_of j)

-- an object from user ids to whole numbers
abbrev pub maps_users_to_ints : Json → Bool
maps_users_to_ints j = maps_to_ints j && list_all is_user_id_text (keys_of (members_of j))

-- each level that is there is a whole number, and each map of levels that is there maps to whole numbers, `users` from user ids
abbrev pub is_well_formed : Json → Bool
is_well_formed content =
    list_all (λ key. is_none_or is_int (field key content)) scalars
    && (is_none_or maps_to_ints (field (codes "events") content)
    && (is_none_or maps_to_ints (field (codes "notifications") content)
    && is_none_or maps_users_to_ints (field (codes "users") content)))

abbrev pub is_above : ℤ → Option ℤ → Bool
is_above level None = false
is_above level (Some z) = int_lt level z

abbrev pub is_at_least : ℤ → Option ℤ → Bool
is_at_least level None = false
is_at_least level (Some z) = int_le level z

abbrev pub differ : Option ℤ → Option ℤ → Bool
differ None None = false
differ None (Some z) = true
differ (Some z) None = true
differ (Some y) (Some z) = not (int_eq y z)

-- a change of a level from or to one above the sender's
abbrev pub exceeds_level : ℤ → Option ℤ → Option ℤ → Bool
exceeds_level level old new = differ old new && (is_above level old || is_above level new)

-- a change of a user's level: another user's must have been below the sender's
abbrev pub exceeds_user_level : ℤ → Bool → Option ℤ → Option ℤ → Bool
exceeds_user_level level own old new = differ old new && ((not own && is_at_least level old) || is_above level new)

-- the keys of a map of levels
abbrev pub map_keys : List ℕ → Json → List (List ℕ)
map_keys name content = keys_of (unwrap_or (option_map members_of (field name content)) [])

-- some entry of a map of levels is changed beyond what the test allows
abbrev pub any_entry : List ℕ → (List ℕ → Option ℤ → Option ℤ → Bool) → Json → Json → Bool
any_entry name test old new = list_any (λ key. test key (entry_at name key old) (entry_at name key new)) (map_keys name old ++ map_keys name new)

-- a change of the standing levels beyond the sender's level
abbrev pub exceeds_own_level : List ℕ → ℤ → Json → Json → Bool
exceeds_own_level sender level old new =
    list_any (λ key. exceeds_level level (int_at key old) (int_at key new)) scalars
    || (any_entry (codes "events") (λ key. exceeds_level level) old new
    || (any_entry (codes "notifications") (λ key. exceeds_level level) old new
    || any_entry (codes "users") (λ key. exceeds_user_level level (bytes_eq key sender)) old new))
