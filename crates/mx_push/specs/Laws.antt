-- What holds of each dotted path.
use Rattle.std.specs.Prelude.{◌≡◌, ℕ, true, List}
use Rattle.std.specs.Str.{IsUtf8}
use Rattle.mx_ids.specs.Ids.{event_id_text, room_id_text}
use Rattle.mx_json.specs.Lookups.{lookup, path_parts}
use Rattle.mx_event.specs.Forms.{bare_form}
use Rattle.mx_event.specs.declared.event.Event.{Event}
use Rattle.mx_push.specs.Properties.{at_path}
use Rattle.mx_push.specs.Settings.{Setting}

-- the texts are those of the event's id and of its room's, at a server
pub record HasIds (server : List ℕ) (s : Setting) (e : Event) : Type 0 where
  pub room : s.room ≡ room_id_text server e.room
  pub event : s.event_id ≡ event_id_text server e.id

-- at a path stands what the parts of the path lead to in the event's client form with the room's id and without `unsigned`
abbrev pub PathsLeadIntoForm : Type 0
PathsLeadIntoForm = (server path : List ℕ) (s : Setting) (e : Event) → HasIds server s e → IsUtf8 path → at_path path s e ≡ lookup (path_parts path) (bare_form server true e)
