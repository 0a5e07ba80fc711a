-- What stands at a dotted path in the client form of an event, with the room's id and without `unsigned` (Client-Server API, Push
-- rules, Dot-separated property paths).
use Rattle.std.specs.Prelude.{ℕ, pos, min, List, [], ◌∷◌, Option, Some, None, nat_eq, option_and_then, option_map, if◌then◌else◌, codes}
use Rattle.std.specs.Str.{bytes_eq, chars}
use Rattle.mx_json.specs.Lookups.{lookup, marks, parts_of}
use Rattle.mx_json.specs.Numbers.{largest}
use Rattle.mx_json.specs.declared.value.Json.{Json}
use Rattle.mx_json.specs.declared.value.Json.TheVariants as json
use Rattle.mx_event.specs.Forms.{redacts_of}
use Rattle.mx_event.specs.declared.event.Event.{Event}
use Rattle.mx_push.specs.Settings.{Setting}
use Rattle.mx_push.specs.declared.property.Property.{Property}
use Rattle.mx_push.specs.declared.property.Property.TheVariants as properties

-- what stands at a key of the client form
abbrev pub leaf_at : List ℕ → Setting → Event → Option Json
leaf_at key s e =
    if bytes_eq key (codes "content") then Some e.content
    else (if bytes_eq key (codes "event_id") then Some (json.Text s.event_id)
    else (if bytes_eq key (codes "origin_server_ts") then Some (json.Int (pos (min e.ts largest)))
    else (if bytes_eq key (codes "redacts") then redacts_of e
    else (if bytes_eq key (codes "room_id") then Some (json.Text s.room)
    else (if bytes_eq key (codes "sender") then Some (json.Text e.sender)
    else (if bytes_eq key (codes "state_key") then option_map json.Text e.state_key
    else (if bytes_eq key (codes "type") then Some (json.Text e.kind)
    else None)))))))

-- the characters behind a front
abbrev pub behind : List ℕ → List ℕ → Option (List ℕ)
behind [] cs = Some cs
behind (f ∷ fs) [] = None
behind (f ∷ fs) (c ∷ cs) = if nat_eq c f then behind fs cs else None

-- by what stands behind `content.`, or else behind `redacts.`: of the keys these two alone may hold an object
abbrev pub path_at : Option (List ℕ) → Option (List ℕ) → List ℕ → Setting → Event → Option Json
path_at (Some rest) other path s e = lookup (parts_of (marks rest)) e.content
path_at None (Some rest) path s e = option_and_then (lookup (parts_of (marks rest))) (redacts_of e)
path_at None None path s e = leaf_at path s e

-- what stands at a dotted path
unfoldable pub at_path : List ℕ → Setting → Event → Option Json
at_path path s e = path_at (behind (chars (codes "content.")) (chars path)) (behind (chars (codes "redacts.")) (chars path)) path s e

-- what stands at a path that an event's client form holds, as the code has it
abbrev pub json_of : Property → Json
json_of (properties.Value j) = j.now
json_of (properties.Text t) = json.Text t.now
json_of (properties.Time n) = json.Int (pos (min n largest))
