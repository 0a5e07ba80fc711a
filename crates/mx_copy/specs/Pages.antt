-- A page of a room's events as a client reads it (Client-Server API, Getting events for a room).
use Rattle.std.specs.Prelude.{ℕ, List, Option, Some, codes}
use Rattle.mx_json.specs.Fields.{text_of}
use Rattle.mx_json.specs.declared.members.Member.{Member}
use Rattle.mx_json.specs.declared.value.Json.{Json}
use Rattle.mx_copy.specs.Events.{ClientEvent, event_of}
use Rattle.mx_copy.specs.Looks.{◌>>=◌, listed, object_of, read_at, read_if}

-- `end` is where the next page begins, `state` are the members that lazy loading sends
pub record ClientPage : Type 0 where
  pub start : List ℕ
  pub end : Option (List ℕ)
  pub chunk : List ClientEvent
  pub state : Option (List ClientEvent)

abbrev pub page_in : List (Member Json) → Option ClientPage
page_in ms = do
  start ← read_at text_of (codes "start") ms
  end ← read_if text_of (codes "end") ms
  chunk ← read_at (listed event_of) (codes "chunk") ms
  state ← read_if (listed event_of) (codes "state") ms
  Some (record { start = start; end = end; chunk = chunk; state = state })

abbrev pub page_of : Json → Option ClientPage
page_of j = object_of j >>= page_in
