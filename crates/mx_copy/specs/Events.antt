-- An event as a client reads it (Client-Server API, Room Event Format, Stripped state).
use Rattle.std.specs.Prelude.{ℕ, List, [], Option, Some, codes, unwrap_or}
use Rattle.mx_json.specs.Fields.{text_of}
use Rattle.mx_json.specs.declared.members.Member.{Member}
use Rattle.mx_json.specs.declared.value.Json.{Json}
use Rattle.mx_copy.specs.Looks.{◌>>=◌, natural_of, object_of, read_at, read_if}

-- an event without its `unsigned`; `room` where the room isn't known from outside
pub record PlainEvent : Type 0 where
  pub id : List ℕ
  pub kind : List ℕ
  pub state_key : Option (List ℕ)
  pub sender : List ℕ
  pub content : Json
  pub ts : ℕ
  pub room : Option (List ℕ)
  pub redacts : Option Json

-- an event, the redaction because of which it is shown redacted, and the transaction of the device
pub record ClientEvent : Type 0 where
  pub event : PlainEvent
  pub because : Option PlainEvent
  pub txn : Option (List ℕ)

-- an event of a stripped state
pub record StrippedEvent : Type 0 where
  pub kind : List ℕ
  pub state_key : List ℕ
  pub sender : List ℕ
  pub content : Json

abbrev pub plain_in : List (Member Json) → Option PlainEvent
plain_in ms = do
  id ← read_at text_of (codes "event_id") ms
  kind ← read_at text_of (codes "type") ms
  state_key ← read_if text_of (codes "state_key") ms
  sender ← read_at text_of (codes "sender") ms
  content ← read_at Some (codes "content") ms
  ts ← read_at natural_of (codes "origin_server_ts") ms
  room ← read_if text_of (codes "room_id") ms
  redacts ← read_if Some (codes "redacts") ms
  Some (record { id = id; kind = kind; state_key = state_key; sender = sender; content = content; ts = ts; room = room; redacts = redacts })

abbrev pub plain_of : Json → Option PlainEvent
plain_of j = object_of j >>= plain_in

abbrev pub event_in : List (Member Json) → Option ClientEvent
event_in ms = do
  event ← plain_in ms
  unsigned ← read_if object_of (codes "unsigned") ms
  because ← read_if plain_of (codes "redacted_because") (unwrap_or unsigned [])
  txn ← read_if text_of (codes "transaction_id") (unwrap_or unsigned [])
  Some (record { event = event; because = because; txn = txn })

abbrev pub event_of : Json → Option ClientEvent
event_of j = object_of j >>= event_in

abbrev pub stripped_in : List (Member Json) → Option StrippedEvent
stripped_in ms = do
  kind ← read_at text_of (codes "type") ms
  state_key ← read_at text_of (codes "state_key") ms
  sender ← read_at text_of (codes "sender") ms
  content ← read_at Some (codes "content") ms
  Some (record { kind = kind; state_key = state_key; sender = sender; content = content })

abbrev pub stripped_of : Json → Option StrippedEvent
stripped_of j = object_of j >>= stripped_in
