-- What an event has for a client, by its parts.
use Rattle.std.specs.Prelude.{ℕ, Bool, List, [], min, ◌==◌, Option, Some, None, option_map, option_and_then, unwrap_or, codes, if◌then◌else◌}
use Rattle.mx_ids.specs.Ids.{event_id_text, room_id_text}
use Rattle.mx_json.specs.Fields.{field}
use Rattle.mx_json.specs.Numbers.{largest}
use Rattle.mx_event.specs.Kinds.{is_redaction}
use Rattle.mx_event.specs.declared.event.Event.{Event}
use Rattle.mx_event.specs.declared.event.Shown.{Shown}
use Rattle.mx_event.specs.declared.event.Txn.{Txn}
use Rattle.mx_copy.specs.Events.{ClientEvent, PlainEvent, StrippedEvent}

-- numbers go up to 2^53 - 1
abbrev pub cut : ℕ → ℕ
cut n = min n largest

-- a transaction's id, for its own device
abbrev pub txn_seen : ℕ → Txn → Option (List ℕ)
txn_seen device txn = if txn.device == device then Some txn.id else None

-- `server` is the name of the server; a redaction repeats beside its content what it names
module _ (server : List ℕ) (with_room : Bool) where
  abbrev pub plain_event : Event → PlainEvent
  plain_event e = record {
    id = event_id_text server e.id;
    kind = e.kind;
    state_key = e.state_key;
    sender = e.sender;
    content = e.content;
    ts = cut e.ts;
    room = if with_room then Some (room_id_text server e.room) else None;
    redacts = if is_redaction e then field (codes "redacts") e.content else None;
  }

  abbrev pub client_event : ℕ → Shown → ClientEvent
  client_event device s = record {
    event = plain_event s.event;
    because = option_map plain_event s.because;
    txn = option_and_then (txn_seen device) s.event.txn;
  }

abbrev pub stripped_event : Shown → StrippedEvent
stripped_event s = record { kind = s.event.kind; state_key = unwrap_or s.event.state_key []; sender = s.event.sender; content = s.event.content }
