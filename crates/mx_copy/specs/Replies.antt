-- The reply to a sync as a client reads it (Client-Server API, Syncing).
use Rattle.std.specs.Prelude.{ℕ, List, Option, Some, codes}
use Rattle.mx_json.specs.Fields.{text_of}
use Rattle.mx_json.specs.declared.members.Member.{Member}
use Rattle.mx_json.specs.declared.value.Json.{Json}
use Rattle.mx_copy.specs.Events.{StrippedEvent}
use Rattle.mx_copy.specs.Looks.{◌>>=◌, keyed, object_of, read_at}
use Rattle.mx_copy.specs.Rooms.{ClientPart, ClientRoom, events_of, invited_of, part_of, room_of, typed_of}

-- rooms by the texts of their ids
pub record ClientReply : Type 0 where
  pub next : List ℕ
  pub account : List (List ℕ × Json)
  pub joined : List ℕ → Option ClientRoom
  pub invited : List ℕ → Option (List StrippedEvent)
  pub left : List ℕ → Option ClientPart

abbrev pub reply_in : List (Member Json) → Option ClientReply
reply_in ms = do
  next ← read_at text_of (codes "next_batch") ms
  account ← read_at (events_of typed_of) (codes "account_data") ms
  rooms ← read_at object_of (codes "rooms") ms
  joined ← read_at (keyed room_of) (codes "join") rooms
  invited ← read_at (keyed invited_of) (codes "invite") rooms
  left ← read_at (keyed part_of) (codes "leave") rooms
  Some (record { next = next; account = account; joined = joined; invited = invited; left = left })

abbrev pub reply_of : Json → Option ClientReply
reply_of j = object_of j >>= reply_in
