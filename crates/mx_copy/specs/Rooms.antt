-- A room in the reply to a sync as a client reads it (Client-Server API, Syncing).
use Rattle.std.specs.Prelude.{ℕ, Bool, true, false, List, Option, Some, None, codes, option_map}
use Rattle.mx_json.specs.Fields.{bool_of, text_of}
use Rattle.mx_json.specs.declared.members.Member.{Member}
use Rattle.mx_json.specs.declared.value.Json.{Json}
use Rattle.mx_copy.specs.Events.{ClientEvent, StrippedEvent, event_of, stripped_of}
use Rattle.mx_copy.specs.Looks.{◌>>=◌, listed, natural_of, object_of, read_at, read_if}
use Rattle.mx_copy.specs.Receipts.{Marks, joined_marks, marks_by}

-- the events of a joined or left room, whether the state is that at the timeline's end, whether there are more events before
-- the timeline, and where a page of those begins
pub record ClientPart : Type 0 where
  pub after : Bool
  pub state : List ClientEvent
  pub timeline : List ClientEvent
  pub limited : Bool
  pub prev_batch : List ℕ

pub record ClientCounts : Type 0 where
  pub highlights : ℕ
  pub notifications : ℕ

-- what isn't sent of a summary is as it was
pub record ClientSummary : Type 0 where
  pub heroes : Option (List (List ℕ))
  pub invited : Option ℕ
  pub joined : Option ℕ

-- a joined room; account data stand as types with contents
pub record ClientRoom : Type 0 where
  pub part : ClientPart
  pub account : List (List ℕ × Json)
  pub receipts : Marks
  pub counts : ClientCounts
  pub summary : ClientSummary

-- what is seen in each event of an object of events
abbrev pub events_of : {A : Type 0} → (Json → Option A) → Json → Option (List A)
events_of see j = object_of j >>= read_at (listed see) (codes "events")

abbrev pub state_or : Option (List ClientEvent) → List (Member Json) → Option (Bool × List ClientEvent)
state_or (Some events) ms = Some (true, events)
state_or None ms = option_map (λ events. (false, events)) (read_at (events_of event_of) (codes "state") ms)

-- the state at the timeline's end where that is there, else the one before the timeline
abbrev pub state_in : List (Member Json) → Option (Bool × List ClientEvent)
state_in ms = do
  after ← read_if (events_of event_of) (codes "state_after") ms
  state_or after ms

abbrev pub part_in : List (Member Json) → Option ClientPart
part_in ms = do
  state ← state_in ms
  timeline ← read_at object_of (codes "timeline") ms
  events ← read_at (listed event_of) (codes "events") timeline
  limited ← read_at bool_of (codes "limited") timeline
  prev_batch ← read_at text_of (codes "prev_batch") timeline
  Some (record { after = state.0; state = state.1; timeline = events; limited = limited; prev_batch = prev_batch })

abbrev pub part_of : Json → Option ClientPart
part_of j = object_of j >>= part_in

-- a type with its content
abbrev pub typed_in : List (Member Json) → Option (List ℕ × Json)
typed_in ms = do
  kind ← read_at text_of (codes "type") ms
  content ← read_at Some (codes "content") ms
  Some (kind, content)

abbrev pub typed_of : Json → Option (List ℕ × Json)
typed_of j = object_of j >>= typed_in

abbrev pub marks_of : Json → Option Marks
marks_of j = option_map joined_marks (events_of (λ e. typed_of e >>= marks_by) j)

abbrev pub counts_in : List (Member Json) → Option ClientCounts
counts_in ms = do
  highlights ← read_at natural_of (codes "highlight_count") ms
  notifications ← read_at natural_of (codes "notification_count") ms
  Some (record { highlights = highlights; notifications = notifications })

abbrev pub counts_of : Json → Option ClientCounts
counts_of j = object_of j >>= counts_in

abbrev pub summary_in : List (Member Json) → Option ClientSummary
summary_in ms = do
  heroes ← read_if (listed text_of) (codes "m.heroes") ms
  invited ← read_if natural_of (codes "m.invited_member_count") ms
  joined ← read_if natural_of (codes "m.joined_member_count") ms
  Some (record { heroes = heroes; invited = invited; joined = joined })

abbrev pub summary_of : Json → Option ClientSummary
summary_of j = object_of j >>= summary_in

abbrev pub room_in : List (Member Json) → Option ClientRoom
room_in ms = do
  part ← part_in ms
  account ← read_at (events_of typed_of) (codes "account_data") ms
  receipts ← read_at marks_of (codes "ephemeral") ms
  counts ← read_at counts_of (codes "unread_notifications") ms
  summary ← read_at summary_of (codes "summary") ms
  Some (record { part = part; account = account; receipts = receipts; counts = counts; summary = summary })

abbrev pub room_of : Json → Option ClientRoom
room_of j = object_of j >>= room_in

-- a room that the user is invited to: its stripped state
abbrev pub invited_of : Json → Option (List StrippedEvent)
invited_of j = object_of j >>= read_at (events_of stripped_of) (codes "invite_state")
