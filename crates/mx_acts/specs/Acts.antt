-- What a request asks of the streams, and what it means that something is told or stored of it.
use Rattle.std.specs.Prelude.{◌≡◌, ℕ, List, [], Option, Some, None, codes, slice_get, option_map, unwrap_or}
use Rattle.mx_event.specs.declared.event.Event.{Event}
use Rattle.mx_fold.specs.Lists.{Lists}
use Rattle.mx_json.specs.declared.value.Json.{Json}
use Rattle.mx_receipt.specs.declared.receipt.ReceiptKind.{ReceiptKind}
use Rattle.mx_entries.specs.declared.drafts.RuleChange.TheVariants as change
use Rattle.mx_aims.specs.Asked.{Aimed, Site, create_aimed, invite_aimed, join_aimed, member_aimed, redact_aimed, room_of, send_aimed, state_aimed, unban_aimed, writer_for}
use Rattle.mx_aims.specs.Stored.{EntryAimed, NoteAimed, ReceiptAimed, account_aimed, marker_aimed, note_aimed, receipt_aimed, receipts_aimed, rules_aimed, tag_aimed, untag_aimed}
use Rattle.mx_user_reads.specs.RoomReads.Reads.{joined_rooms_said, one_event_said, room_members_said, room_state_said, state_content_said}
use Rattle.mx_user_reads.specs.Filters.{stored_filter}
use Rattle.mx_user_reads.specs.Rules.{push_rule, push_rules, rule_actions, rule_enabled}
use Rattle.mx_user_reads.specs.Values.{account_value, room_tags}
use Rattle.mx_ask.specs.declared.ask.Ask.{Ask}
use Rattle.mx_ask.specs.declared.ask.Ask.TheVariants as ask
use Rattle.mx_ask.specs.declared.ask.Who.{Who}
use Rattle.mx_ask.specs.declared.said.Said.{Said}
use Rattle.mx_ask.specs.declared.said.Said.TheVariants as said
use Rattle.mx_acts.specs.declared.kind.ActKind.{ActKind}
use Rattle.mx_acts.specs.declared.kind.ActKind.TheVariants as kind
use Rattle.mx_acts.specs.Reads.{of_room, page_said, sync_said}

-- ---- who asks

unfoldable pub whoami_said : Site → Who → Said
whoami_said site who = said.Named who.user (unwrap_or (option_map (λ d. d.name) (slice_get site.users.devices who.device)) [])

-- ---- whatever is asked

-- what a request asks of the streams: an answer that is read off what they cover, a write of events, a filter that a writer
-- stores for a user, or a write of account data, of receipts, or of `m.fully_read` and then of receipts, by the events that are covered
pub data Act : Type 0 where
  Reads : (Lists → Said) → Act
  Sends : Aimed → Act
  Files : ℕ → List ℕ → Json → Act
  Puts : (List Event → EntryAimed) → Act
  Marks : (List Event → ReceiptAimed) → Act
  Notes : (List Event → NoteAimed) → Act

-- account data, global or of a room
abbrev pub account_told : Site → Lists → Who → Option (List ℕ) → List ℕ → Said
account_told site lists who None kind = account_value lists who.user None kind
account_told site lists who (Some room) kind = of_room (λ r. account_value lists who.user (Some r) kind) (room_of site room)

-- a marker of the caller: `m.fully_read`, or a receipt of a kind
abbrev pub marked : Site → ℕ → Who → List ℕ → List ℕ → Option ReceiptKind → Act
marked site now who room event None = Puts (marker_aimed site who room event)
marked site now who room event (Some kind) = Marks (receipt_aimed site now who room kind event)

-- up to which events of a room the caller has read
abbrev pub read_marked : Site → ℕ → Who → List ℕ → Option (List ℕ) → Option (List ℕ) → Option (List ℕ) → Act
read_marked site now who room None read private = Marks (receipts_aimed site now who room read private)
read_marked site now who room (Some event) read private = Notes (note_aimed site now who room event read private)

abbrev pub asked : Site → ℕ → Who → Ask → Act
asked site now who ask.WhoAmI = Reads (λ lists. whoami_said site who)
asked site now who (ask.CreateRoom body) = Sends (create_aimed site now who body)
asked site now who (ask.Send room kind txn content) = Sends (send_aimed site now who room kind txn content)
asked site now who ask.JoinedRooms = Reads (λ lists. joined_rooms_said lists who.user)
asked site now who (ask.GetState room kind key) = Reads (λ lists. of_room (λ r. state_content_said lists who.user r kind key) (room_of site room))
asked site now who (ask.AllState room) = Reads (λ lists. of_room (λ r. room_state_said lists who.user r) (room_of site room))
asked site now who (ask.Members room membership not_membership) = Reads (λ lists. of_room (λ r. room_members_said lists who.user r membership not_membership) (room_of site room))
asked site now who (ask.OneEvent room event) = Reads (λ lists. of_room (λ r. one_event_said lists who.user r event) (room_of site room))
asked site now who (ask.PutState room kind key content) = Sends (state_aimed site now who room kind key content)
asked site now who (ask.Redact room event txn reason) = Sends (redact_aimed site now who room event txn reason)
asked site now who (ask.Join room reason) = Sends (join_aimed site now who room reason)
asked site now who (ask.Leave room reason) = Sends (member_aimed site now who room who.user (codes "leave") reason)
asked site now who (ask.Invite room user reason) = Sends (invite_aimed site now who room user reason)
asked site now who (ask.Kick room user reason) = Sends (member_aimed site now who room user (codes "leave") reason)
asked site now who (ask.Ban room user reason) = Sends (member_aimed site now who room user (codes "ban") reason)
asked site now who (ask.Unban room user reason) = Sends (unban_aimed site now who room user reason)
asked site now who (ask.Messages room backward from to limit filter) = Reads (λ lists. page_said lists who.user (room_of site room) backward from to limit filter)
asked site now who (ask.Sync since filter full after timeout) = Reads (λ lists. sync_said lists who.user since filter full after)
asked site now who (ask.PutFilter filter) = Files (writer_for site who.user) who.user filter
asked site now who (ask.GetFilter id) = Reads (λ lists. stored_filter lists who.user id)
asked site now who (ask.GetAccount room kind) = Reads (λ lists. account_told site lists who room kind)
asked site now who (ask.Tags room) = Reads (λ lists. of_room (λ r. room_tags lists who.user r) (room_of site room))
asked site now who (ask.PushRules inner) = Reads (λ lists. push_rules lists who.user inner)
asked site now who (ask.GetRule kind id) = Reads (λ lists. push_rule lists who.user kind id)
asked site now who (ask.GetEnabled kind id) = Reads (λ lists. rule_enabled lists who.user kind id)
asked site now who (ask.GetActions kind id) = Reads (λ lists. rule_actions lists who.user kind id)
asked site now who (ask.PutAccount room kind content) = Puts (account_aimed site who room kind content)
asked site now who (ask.PutTag room tag body) = Puts (tag_aimed site who room tag body)
asked site now who (ask.DeleteTag room tag) = Puts (untag_aimed site who room tag)
asked site now who (ask.Receipt room kind event) = marked site now who room event kind
asked site now who (ask.ReadMarkers room fully read private) = read_marked site now who room fully read private
asked site now who (ask.PutRule kind id body before after) = Puts (rules_aimed site who (change.Put kind id body before after))
asked site now who (ask.DeleteRule kind id) = Puts (rules_aimed site who (change.Remove kind id))
asked site now who (ask.PutEnabled kind id on) = Puts (rules_aimed site who (change.Enable kind id on))
asked site now who (ask.PutActions kind id body) = Puts (rules_aimed site who (change.Act kind id body))

abbrev pub kind_in : Act → ActKind
kind_in (Reads reads) = kind.Reads
kind_in (Sends aimed) = kind.Sends
kind_in (Files k user filter) = kind.Files
kind_in (Puts aims) = kind.Puts
kind_in (Marks aims) = kind.Marks
kind_in (Notes aims) = kind.Notes

-- this is told of an act that reads
abbrev pub Tells : Act → Lists → Said → Type 0
Tells (Reads reads) lists s = s ≡ reads lists
Tells act lists s = ⊥

-- this is what an act asks of a writer of events
abbrev pub SendsBy : Act → Aimed → Type 0
SendsBy (Sends aimed) a = a ≡ aimed
SendsBy act a = ⊥

-- of a writer of account data, by the events that are covered
abbrev pub PutsBy : Act → List Event → EntryAimed → Type 0
PutsBy (Puts aims) events a = a ≡ aims events
PutsBy act events a = ⊥

-- of one of receipts
abbrev pub MarksBy : Act → List Event → ReceiptAimed → Type 0
MarksBy (Marks aims) events a = a ≡ aims events
MarksBy act events a = ⊥

-- of both
abbrev pub NotesBy : Act → List Event → NoteAimed → Type 0
NotesBy (Notes aims) events a = a ≡ aims events
NotesBy act events a = ⊥
