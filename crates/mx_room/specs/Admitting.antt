-- Which event a room admits, and why it refuses another.
use Rattle.std.specs.Prelude.{ℕ, ◌==◌, ◌&&◌, length, nat_eq, nat_lt, List, [], ◌∷◌, Bool, false, Option, Some, None, Result, Ok, Err, option_map, if◌then◌else◌}
use Rattle.std.specs.Cmp.Lexicographic.{pointwise}
use Rattle.std.specs.List.{find}
use Rattle.std.specs.Str.{bytes_eq}
use Rattle.mx_ids.specs.User.{server_of}
use Rattle.mx_ids.specs.declared.event_id.EventId.{EventId}
use Rattle.mx_ids.specs.declared.room_id.RoomId.{RoomId}
use Rattle.mx_event.specs.Denied.{denied}
use Rattle.mx_event.specs.Drafts.{drafted}
use Rattle.mx_event.specs.Forms.{fits}
use Rattle.mx_event.specs.Lawful.{has_target}
use Rattle.mx_event.specs.declared.draft.Draft.{Draft}
use Rattle.mx_event.specs.declared.event.Event.{Event}
use Rattle.mx_event.specs.declared.event.Txn.{Txn}
use Rattle.mx_room.specs.Books.{Rooms, events_of, room_events}
use Rattle.mx_room.specs.declared.admitted.Admitted.{Admitted}
use Rattle.mx_room.specs.declared.admitted.Admitted.TheVariants as admitted
use Rattle.mx_room.specs.declared.fault.RoomFault.{RoomFault}
use Rattle.mx_room.specs.declared.fault.RoomFault.TheVariants as faults

-- the same device, on the same path, with the same id
abbrev pub same_txn : Txn → Txn → Bool
same_txn t u = (t.device == u.device) && (bytes_eq t.id u.id && pointwise (pointwise nat_eq) t.path u.path)

abbrev pub is_in : Txn → Option Txn → Bool
is_in txn None = false
is_in txn (Some own) = same_txn own txn

-- the id of the event that was sent in a transaction
abbrev pub sent_in : Option Txn → List Event → Option EventId
sent_in None es = None
sent_in (Some txn) es = option_map (λ (e : Event). e.id) (find (λ (e : Event). is_in txn e.txn) es)

abbrev pub fault_of : Option ℕ → Option RoomFault
fault_of None = None
fault_of (Some rule) = Some (faults.Denied rule)

-- why an event isn't admitted after these of its room
abbrev pub refusal : Event → List Event → Option RoomFault
refusal e es =
    if fits (server_of e.sender) e then (if has_target e es then fault_of (denied e es) else Some faults.NoTarget)
    else Some faults.TooLarge

abbrev pub unless_refused : Event → Option RoomFault → Result Admitted RoomFault
unless_refused e None = Ok (admitted.Ready (record { event = e }))
unless_refused e (Some fault) = Err fault

abbrev pub unless_sent : Event → List Event → Option EventId → Result Admitted RoomFault
unless_sent e es None = unless_refused e (refusal e es)
unless_sent e es (Some id) = Ok (admitted.Repeat id)

-- a room of the writer: it has a position, and events
abbrev pub has_room : Rooms → RoomId → Bool
has_room b room = nat_lt 0 room.at && nat_lt 0 (length (room_events b room))

-- what becomes of an event of a writer's room
abbrev pub outcome : Rooms → Event → Result Admitted RoomFault
outcome b e = if has_room b e.room then unless_sent e (room_events b e.room) (sent_in e.txn (events_of b)) else Err faults.NoRoom

-- what becomes of a draft
abbrev pub admitted_by : Rooms → Draft → Result Admitted RoomFault
admitted_by b d = outcome b (drafted d)

-- the answer for an event that isn't refused: the event itself, or the id of the one that was sent before
abbrev pub answered : Event → Option EventId → Admitted
answered e None = admitted.Ready (record { event = e })
answered e (Some id) = admitted.Repeat id

-- the block that is ready after an answer
abbrev pub ready_block : Admitted → List Event → List Event
ready_block (admitted.Ready r) before = r.event ∷ []
ready_block (admitted.Repeat id) before = before
