-- When a condition of a push rule holds (Client-Server API, Push rules, Conditions).
use Rattle.std.specs.Prelude.{ℕ, ℤ, pos, ◌+◌, ◌-◌, ◌*◌, Bool, true, false, not, ◌&&◌, ◌||◌, ◌==◌, nat_eq, nat_le, nat_lt, int_le, List, [], ◌∷◌, length, Option, Some, None, option_and_then, unwrap_or, if◌then◌else◌, codes}
use Rattle.std.specs.List.{list_any}
use Rattle.std.specs.Ordering.{int_eq}
use Rattle.std.specs.Str.{bytes_eq, chars}
use Rattle.mx_glob.specs.Globs.{Spot, glob, glob_in_words, holds, is_edge, next_char, onward, place_of, step}
use Rattle.mx_glob.specs.declared.wildcards.Same.TheVariants.{Exact, Folded}
use Rattle.mx_json.specs.Fields.{bool_of, field, int_of, list_of, text_at, text_of}
use Rattle.mx_json.specs.declared.value.Json.{Json, out-Json}
use Rattle.mx_json.specs.declared.value.Json.TheOpen.{Json-F}
use Rattle.mx_event.specs.Kinds.{is_text}
use Rattle.mx_event.specs.Levels.{entry_of, level_of, powers}
use Rattle.mx_event.specs.declared.event.Event.{Event}
use Rattle.mx_rules.specs.Forms.{is_numeral}
use Rattle.mx_push.specs.Properties.{at_path}
use Rattle.mx_push.specs.Settings.{Setting}

-- `event_match`: the pattern fits the whole text at the key; in `content.body` it fits a stretch between word boundaries
abbrev pub fits_text : List ℕ → List ℕ → Option (List ℕ) → Bool
fits_text key pattern None = false
fits_text key pattern (Some text) = if bytes_eq key (codes "content.body") then glob_in_words Folded pattern text else glob Folded pattern text

abbrev pub matches : List ℕ → List ℕ → Setting → Event → Bool
matches key pattern s e = fits_text key pattern (option_and_then text_of (at_path key s e))

abbrev pub is_null_in : Json-F Json → Bool
is_null_in Json-F.Null = true
is_null_in (Json-F.Bool b) = false
is_null_in (Json-F.Int z) = false
is_null_in (Json-F.Text s) = false
is_null_in (Json-F.List js) = false
is_null_in (Json-F.Object ms) = false

abbrev pub is_null : Json → Bool
is_null j = is_null_in (out-Json j)

abbrev pub is_bool : Bool → Option Bool → Bool
is_bool b None = false
is_bool b (Some c) = if b then c else not c

abbrev pub is_int : ℤ → Option ℤ → Bool
is_int z None = false
is_int z (Some y) = int_eq z y

-- the same text, whole number, truth value or null
abbrev pub is_same_in : Json-F Json → Json → Bool
is_same_in Json-F.Null j = is_null j
is_same_in (Json-F.Bool b) j = is_bool b (bool_of j)
is_same_in (Json-F.Int z) j = is_int z (int_of j)
is_same_in (Json-F.Text s) j = is_text s (text_of j)
is_same_in (Json-F.List js) j = false
is_same_in (Json-F.Object ms) j = false

abbrev pub is_same : Json → Json → Bool
is_same value j = is_same_in (out-Json value) j

-- `event_property_is`, of what stands at the key
abbrev pub is_value : Json → Option Json → Bool
is_value value None = false
is_value value (Some j) = is_same value j

-- `event_property_contains`, of the list that stands at the key
abbrev pub has_value : Json → Option (List Json) → Bool
has_value value None = false
has_value value (Some js) = list_any (is_same value) js

-- a word may begin or end at this place
abbrev pub is_boundary : Spot → Bool
is_boundary p = is_edge p.before || is_edge (next_char p.behind)

-- characters stand at a place of a text, and a word ends behind them
abbrev pub stands_at : List ℕ → Spot → Bool
stands_at [] p = is_boundary p
stands_at (c ∷ cs) p = holds (stands_at cs) (step Exact c p.behind)

-- they stand in a text between word boundaries
abbrev pub stands_in : List ℕ → List ℕ → Bool
stands_in word text = list_any (λ p. is_boundary p && stands_at (chars word) p) (onward (place_of None text))

-- `contains_display_name`
abbrev pub names : Option (List ℕ) → Option (List ℕ) → Bool
names None body = false
names (Some name) None = false
names (Some name) (Some body) = not (length name == 0) && stands_in name body

-- the number of digits (0 is 48), of which the first has the greatest place
abbrev pub number_from : ℕ → List ℕ → ℕ
number_from n [] = n
number_from n (d ∷ ds) = number_from (n * 10 + (d - 48)) ds

abbrev pub number_of : List ℕ → ℕ
number_of ds = number_from 0 ds

-- a count stands so to the number of a text of digits
abbrev pub stands_to : (ℕ → ℕ → Bool) → List ℕ → ℕ → Bool
stands_to test ds n = is_numeral ds && test n (number_of ds)

abbrev pub is_above : ℕ → ℕ → Bool
is_above n m = nat_lt m n

abbrev pub is_at_least : ℕ → ℕ → Bool
is_at_least n m = nat_le m n

-- what stands behind `<`, `>` and `=`; the equals sign is 61
abbrev pub is_below_by : List ℕ → ℕ → Bool
is_below_by [] n = false
is_below_by (c ∷ cs) n = if c == 61 then stands_to nat_le cs n else stands_to nat_lt (c ∷ cs) n

abbrev pub is_above_by : List ℕ → ℕ → Bool
is_above_by [] n = false
is_above_by (c ∷ cs) n = if c == 61 then stands_to is_at_least cs n else stands_to is_above (c ∷ cs) n

abbrev pub is_equal_by : List ℕ → ℕ → Bool
is_equal_by [] n = false
is_equal_by (c ∷ cs) n = if c == 61 then stands_to nat_eq cs n else false

-- `room_member_count`: the count stands so to the number behind `<` (60), `>` (62), `<=`, `>=`, `==` or no sign
abbrev pub is_count : List ℕ → ℕ → Bool
is_count [] n = false
is_count (c ∷ cs) n = if c == 60 then is_below_by cs n else (if c == 62 then is_above_by cs n else (if c == 61 then is_equal_by cs n else stands_to nat_eq (c ∷ cs) n))

-- `sender_notification_permission`: by default the level is 50
abbrev pub needed_level : List ℕ → List Event → ℤ
needed_level key es = unwrap_or (entry_of (codes "notifications") key (powers es)) (pos 50)

abbrev pub may_notify : List ℕ → Setting → Event → Bool
may_notify key s e = int_le (needed_level key s.before) (level_of e.sender s.before)

-- the fields of a condition of a kind hold; one without its fields, or of an unknown kind, never does
abbrev pub matches_at : Option (List ℕ) → Option (List ℕ) → Setting → Event → Bool
matches_at None pattern s e = false
matches_at (Some key) None s e = false
matches_at (Some key) (Some pattern) s e = matches key pattern s e

abbrev pub is_value_at : Option (List ℕ) → Option Json → Setting → Event → Bool
is_value_at None value s e = false
is_value_at (Some key) None s e = false
is_value_at (Some key) (Some value) s e = is_value value (at_path key s e)

abbrev pub has_value_at : Option (List ℕ) → Option Json → Setting → Event → Bool
has_value_at None value s e = false
has_value_at (Some key) None s e = false
has_value_at (Some key) (Some value) s e = has_value value (option_and_then list_of (at_path key s e))

abbrev pub is_count_by : Option (List ℕ) → ℕ → Bool
is_count_by None n = false
is_count_by (Some bound) n = is_count bound n

abbrev pub may_notify_at : Option (List ℕ) → Setting → Event → Bool
may_notify_at None s e = false
may_notify_at (Some key) s e = may_notify key s e

abbrev pub holds_as : List ℕ → Json → Setting → Event → Bool
holds_as kind c s e =
    if bytes_eq kind (codes "event_match") then matches_at (text_at (codes "key") c) (text_at (codes "pattern") c) s e
    else (if bytes_eq kind (codes "event_property_is") then is_value_at (text_at (codes "key") c) (field (codes "value") c) s e
    else (if bytes_eq kind (codes "event_property_contains") then has_value_at (text_at (codes "key") c) (field (codes "value") c) s e
    else (if bytes_eq kind (codes "contains_display_name") then names s.name (text_at (codes "body") e.content)
    else (if bytes_eq kind (codes "room_member_count") then is_count_by (text_at (codes "is") c) s.joined
    else (if bytes_eq kind (codes "sender_notification_permission") then may_notify_at (text_at (codes "key") c) s e
    else false)))))

abbrev pub holds_by : Option (List ℕ) → Json → Setting → Event → Bool
holds_by None c s e = false
holds_by (Some kind) c s e = holds_as kind c s e

abbrev pub condition_holds : Setting → Event → Json → Bool
condition_holds s e c = holds_by (text_at (codes "kind") c) c s e
