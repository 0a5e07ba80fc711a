-- *Passes*: what a filter lets pass (Client-Server API, Filtering).
use Rattle.std.specs.Prelude.{ℕ, Bool, true, ◌&&◌, not, if◌then◌else◌, List, Option, Some, None}
use Rattle.std.specs.List.{list_any}
use Rattle.std.specs.Str.{bytes_eq}
use Rattle.mx_view.specs.OfEvent.Event.{Event}
use Rattle.mx_glob.specs.Globs.{glob}
use Rattle.mx_glob.specs.declared.wildcards.Same.TheVariants as same
use Rattle.mx_ids.specs.Ids.{room_id_text}
use Rattle.mx_ids.specs.declared.room_id.RoomId.{RoomId}
use Rattle.mx_filter.specs.declared.parts.EventFilter.{EventFilter}
use Rattle.mx_filter.specs.declared.parts.Selection.{Selection}
use Rattle.mx_filter.specs.declared.parts.TypeFilter.{TypeFilter}
use Rattle.mx_filter.specs.declared.parts.Part.{Part}
use Rattle.mx_filter.specs.declared.parts.Part.TheVariants as parts
use Rattle.mx_filter.specs.declared.parts.DataPart.{DataPart}
use Rattle.mx_filter.specs.declared.parts.DataPart.TheVariants as kinds

-- an entry of the list is right, or there is no list
abbrev pub admits : (List ℕ → Bool) → Option (List (List ℕ)) → Bool
admits is_right None = true
admits is_right (Some entries) = list_any is_right entries

-- no entry of the one list is right, and one of the other is where that is there
abbrev pub selects : (List ℕ → Bool) → Option (List (List ℕ)) → List (List ℕ) → Bool
selects is_right wanted unwanted = not (list_any is_right unwanted) && admits is_right wanted

-- an entry stands for the type
abbrev pub names_type : List ℕ → List ℕ → Bool
names_type kind entry = glob same.Exact entry kind

abbrev pub type_passes : TypeFilter → List ℕ → Bool
type_passes f kind = selects (names_type kind) f.types f.not_types

abbrev pub room_passes : List ℕ → Option (List (List ℕ)) → List (List ℕ) → RoomId → Bool
room_passes server wanted unwanted room = selects (bytes_eq (room_id_text server room)) wanted unwanted

abbrev pub url_passes : Option Bool → Bool → Bool
url_passes None has_url = true
url_passes (Some wanted) has_url = if wanted then has_url else not has_url

-- of an event of the room that is asked
abbrev pub event_passes : List ℕ → EventFilter → RoomId → Event → Bool
event_passes server f room e =
    type_passes f.kinds e.kind
    && (selects (bytes_eq e.sender) f.senders f.not_senders
    && (room_passes server f.rooms f.not_rooms room && url_passes f.contains_url e.has_url))

abbrev pub part_of : Part → Selection → EventFilter
part_of parts.State s = s.state
part_of parts.Timeline s = s.timeline

abbrev pub passes : List ℕ → Selection → Part → RoomId → Event → Bool
passes server s part room e = event_passes server (part_of part s) room e

abbrev pub types_of : DataPart → Selection → TypeFilter
types_of kinds.Account s = s.account
types_of kinds.RoomAccount s = s.room_account
types_of kinds.Ephemeral s = s.ephemeral

abbrev pub passes_type : Selection → DataPart → List ℕ → Bool
passes_type s part kind = type_passes (types_of part s) kind

-- the filter picks the room
abbrev pub picks : List ℕ → Selection → RoomId → Bool
picks server s room = room_passes server s.rooms s.not_rooms room
