-- *Shown*: how the events of a room stand at a front. `es` are the events of one room, in the order of their positions.
use Rattle.std.specs.Prelude.{ℕ, ◌^◌, ◌-◌, ◌==◌, List, [], ◌∷◌, Bool, false, Option, Some, None, option_map, option_and_then, if◌then◌else◌, codes}
use Rattle.std.specs.List.{list_any, filter}
use Rattle.mx_ids.specs.User.{server_of}
use Rattle.mx_ids.specs.Ids.{event_id_at}
use Rattle.mx_ids.specs.declared.event_id.EventId.{EventId}
use Rattle.mx_json.specs.Fields.{text_at}
use Rattle.mx_window.specs.Windows.{between}
use Rattle.mx_event.specs.Kinds.{is_redaction}
use Rattle.mx_event.specs.Redaction.{redacted}
use Rattle.mx_event.specs.declared.event.Event.{Event}
use Rattle.mx_event.specs.declared.event.Shown.{Shown}

abbrev pub position_of : Event → ℕ
position_of e = e.id.at

-- the event id of the sender's server that a redaction's content names
abbrev pub named_id : Event → Option EventId
named_id e = if is_redaction e then option_and_then (event_id_at (2 ^ 64 - 1) (server_of e.sender)) (text_at (codes "redacts") e.content) else None

abbrev pub is_at : ℕ → Option EventId → Bool
is_at at None = false
is_at at (Some id) = id.at == at

-- the event is a redaction of the one at this position
abbrev pub names : Event → ℕ → Bool
names e at = is_at at (named_id e)

-- the redactions of an event up to a front
abbrev pub redactions : List Event → Event → ℕ → List Event
redactions es v front = filter (λ e. names e v.id.at) (between position_of v.id.at front es)

abbrev pub is_redacted : List Event → Event → ℕ → Bool
is_redacted es v front = list_any (λ e. names e v.id.at) (between position_of v.id.at front es)

-- an event as shown at a front
abbrev pub shown : List Event → Event → ℕ → Event
shown es v front = if is_redacted es v front then redacted v else v

abbrev pub first_of : List Event → Option Event
first_of [] = None
first_of (e ∷ es) = Some e

-- the first redaction of an event, as shown at the same front
abbrev pub because : List Event → Event → ℕ → Option Event
because es v front = option_map (λ e. shown es e front) (first_of (redactions es v front))

abbrev pub shown_with : List Event → Event → ℕ → Shown
shown_with es v front = record { event = shown es v front; because = because es v front }
