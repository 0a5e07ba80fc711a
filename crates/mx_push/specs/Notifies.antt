-- *Notifies*: what a user's push rules say of an event in a room (Client-Server API, Push rules).
use Rattle.std.specs.Prelude.{ℕ, Bool, true, false, not, ◌&&◌, ◌||◌, List, [], ◌∷◌, ◌++◌, map, Option, Some, None, is_some, option_and_then, if◌then◌else◌, codes}
use Rattle.std.specs.List.{list_all, list_any}
use Rattle.std.specs.Str.{bytes_eq}
use Rattle.mx_json.specs.Fields.{bool_of, field, text_at, text_of}
use Rattle.mx_json.specs.declared.value.Json.{Json}
use Rattle.mx_event.specs.Kinds.{is_text}
use Rattle.mx_event.specs.declared.event.Event.{Event}
use Rattle.mx_rules.specs.Edits.{Entries}
use Rattle.mx_rules.specs.Rules.{Rules}
use Rattle.mx_rules.specs.declared.rule.Rule.{Rule}
use Rattle.mx_push.specs.Conditions.{condition_holds, matches}
use Rattle.mx_push.specs.Settings.{Setting}

-- the default rules by words in the body, which an event with `m.mentions` skips
abbrev pub is_by_words : List ℕ → Bool
is_by_words id = bytes_eq id (codes ".m.rule.contains_display_name") || bytes_eq id (codes ".m.rule.roomnotif") || bytes_eq id (codes ".m.rule.contains_user_name")

abbrev pub is_skipped : List ℕ → Event → Bool
is_skipped id e = is_by_words id && is_some (field (codes "m.mentions") e.content)

-- a rule is tried: it is enabled, and not skipped
abbrev pub is_tried : {T : Type 0} → Event → List ℕ × Rule T → Bool
is_tried e r = r.1.enabled && not (is_skipped r.0 e)

-- which rules of each kind match
abbrev pub by_conditions : Setting → Event → List ℕ × Rule (List Json) → Bool
by_conditions s e r = is_tried e r && list_all (condition_holds s e) r.1.test

abbrev pub by_pattern : Setting → Event → List ℕ × Rule (List ℕ) → Bool
by_pattern s e r = is_tried e r && matches (codes "content.body") r.1.test s e

-- the id of a rule of a room is the room's, and that of a rule of a sender the sender's
abbrev pub by_id : List ℕ → Event → List ℕ × Rule (Unit {0}) → Bool
by_id id e r = is_tried e r && bytes_eq r.0 id

-- rules with whether each matches, and its actions
abbrev pub judged : {T : Type 0} → (List ℕ × Rule T → Bool) → Entries T → List (Bool × List Json)
judged test es = map (λ r. (test r, r.1.actions)) es

-- the rules of a user as one list, in the order in which they are tried
abbrev pub all_judged : Rules → Setting → Event → List (Bool × List Json)
all_judged rs s e =
    judged (by_conditions s e) rs.override_rules
    ++ (judged (by_pattern s e) rs.content
    ++ (judged (by_id s.room e) rs.room
    ++ (judged (by_id e.sender e) rs.sender
    ++ judged (by_conditions s e) rs.underride)))

-- the actions of the first that matches
abbrev pub first_match : List (Bool × List Json) → Option (List Json)
first_match [] = None
first_match (r ∷ rs) = if r.0 then Some r.1 else first_match rs

abbrev pub is_notify : Json → Bool
is_notify j = is_text (codes "notify") (text_of j)

abbrev pub is_true : Option Bool → Bool
is_true None = false
is_true (Some b) = b

-- the tweak `highlight` without a value, or with `true`
abbrev pub is_on : Option Json → Bool
is_on None = true
is_on (Some j) = is_true (bool_of j)

abbrev pub is_highlight : Json → Bool
is_highlight j = is_text (codes "highlight") (text_at (codes "set_tweak") j) && is_on (field (codes "value") j)

-- nothing where the actions don't notify, else whether they highlight
abbrev pub told : List Json → Option Bool
told actions = if list_any is_notify actions then Some (list_any is_highlight actions) else None

-- what the rules say of an event: nothing, or whether it highlights. A user's own events never notify
abbrev pub notifies : Rules → Setting → Event → Option Bool
notifies rs s e = if bytes_eq e.sender s.user then None else option_and_then told (first_match (all_judged rs s e))
