-- An event as clients see it (Client-Server API, Room Event Format), and the size of an event.
use Rattle.std.specs.Prelude.{ℕ, List, [], ◌∷◌, ◌++◌, Bool, true, ◌==◌, nat_le, min, pos, length, Option, Some, None, option_and_then, option_map, if◌then◌else◌, codes}
use Rattle.std.specs.Option.{option_to_list}
use Rattle.mx_ids.specs.Ids.{room_id_text, event_id_text}
use Rattle.mx_json.specs.Fields.{field}
use Rattle.mx_json.specs.Numbers.{largest}
use Rattle.mx_json.specs.Texts.{json_text}
use Rattle.mx_json.specs.declared.members.Member.{Member}
use Rattle.mx_json.specs.declared.value.Json.{Json}
use Rattle.mx_json.specs.declared.value.Json.TheVariants as json
use Rattle.mx_event.specs.Kinds.{is_redaction}
use Rattle.mx_event.specs.declared.event.Event.{Event}
use Rattle.mx_event.specs.declared.event.Shown.{Shown}
use Rattle.mx_event.specs.declared.event.Txn.{Txn}

abbrev pub member : List ℕ → Json → Member Json
member key value = record { key = key; value = value }

-- a member that stands where there is a value
abbrev pub member_if : List ℕ → Option Json → List (Member Json)
member_if key value = option_to_list (option_map (member key) value)

-- a redaction repeats beside its content what it names
abbrev pub redacts_of : Event → Option Json
redacts_of e = if is_redaction e then field (codes "redacts") e.content else None

-- the room's id, where it isn't known from outside
abbrev pub room_of : List ℕ → Bool → Event → Option Json
room_of server with_room e = if with_room then Some (json.Text (room_id_text server e.room)) else None

-- the members of an event, and some behind them
abbrev pub event_with : List ℕ → Bool → List (Member Json) → Event → List (Member Json)
event_with server with_room last e =
    member (codes "content") e.content
    ∷ member (codes "event_id") (json.Text (event_id_text server e.id))
    ∷ member (codes "origin_server_ts") (json.Int (pos (min e.ts largest)))
    ∷ (member_if (codes "redacts") (redacts_of e)
    ++ (member_if (codes "room_id") (room_of server with_room e)
    ++ (member (codes "sender") (json.Text e.sender)
    ∷ (member_if (codes "state_key") (option_map json.Text e.state_key)
    ++ (member (codes "type") (json.Text e.kind)
    ∷ last)))))

-- the members of an event, with its `unsigned` where that isn't empty
abbrev pub event_members : List ℕ → Bool → List (Member Json) → Event → List (Member Json)
event_members server with_room unsigned e =
    event_with server with_room (member_if (codes "unsigned") (if length unsigned == 0 then None else Some (json.Object unsigned))) e

-- the event without `unsigned`
abbrev pub bare_form : List ℕ → Bool → Event → Json
bare_form server with_room e = json.Object (event_members server with_room [] e)

-- the transaction id goes to the device that sent the event
abbrev pub txn_for : ℕ → Txn → Option Json
txn_for device txn = if txn.device == device then Some (json.Text txn.id) else None

-- what isn't part of the event: why it is redacted, and the transaction of the device
abbrev pub unsigned_of : List ℕ → Bool → ℕ → Shown → List (Member Json)
unsigned_of server with_room device s =
    member_if (codes "redacted_because") (option_map (bare_form server with_room) s.because)
    ++ member_if (codes "transaction_id") (option_and_then (txn_for device) s.event.txn)

-- the event as a device sees it
abbrev pub client_form : List ℕ → Bool → ℕ → Shown → Json
client_form server with_room device s = json.Object (event_members server with_room (unsigned_of server with_room device s) s.event)

-- the event with the positions of its id and of its room's id as long as fifteen digits
abbrev pub with_long_ids : Event → Event
with_long_ids e = record e { id = record { at = 100000000000000 }; room = record { writer = e.room.writer; at = 100000000000000 } }

-- an event is at most 65,536 bytes (Client-Server API, Size limits), with its ids at their longest
abbrev pub fits : List ℕ → Event → Bool
fits server e = nat_le (length (json_text (bare_form server true (with_long_ids e)))) 65536
