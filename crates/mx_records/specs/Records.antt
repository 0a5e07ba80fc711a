-- A store as a value, and what is read of it: events as drafts, receipts and entries without positions.
use Rattle.std.specs.Prelude.{ℕ, Bool, true, false, List, [], ◌∷◌, map, Option, Some, None, option_and_then}
use Rattle.mx_ids.specs.declared.room_id.RoomId.{RoomId}
use Rattle.mx_account.specs.declared.entry.Entry.{Entry}
use Rattle.mx_account.specs.declared.entry.Entry.TheVariants as entry
use Rattle.mx_event.specs.declared.draft.Draft.{Draft}
use Rattle.mx_event.specs.declared.event.Event.{Event}
use Rattle.mx_event.specs.declared.event.Txn.{Txn}
use Rattle.mx_json.specs.Fields.{bool_of, list_of, text_of}
use Rattle.mx_json.specs.declared.value.Json.{Json}
use Rattle.mx_json.specs.declared.value.Json.TheVariants as json
use Rattle.mx_receipt.specs.declared.receipt.Receipt.{Receipt}
use Rattle.mx_receipt.specs.declared.receipt.ReceiptKind.{ReceiptKind}
use Rattle.mx_receipt.specs.declared.receipt.ReceiptKind.TheVariants.{Read, Private}
use Rattle.mx_records.specs.Values.{each_of, nat_json, nat_of, option_json, option_read, room_json, room_read, txn_json, txn_read}

-- ---- an event: type, state key, sender, content, time, transaction, room

abbrev pub event_json : Event → Json
event_json e =
    json.List (json.Text e.kind ∷ option_json json.Text e.state_key ∷ json.Text e.sender ∷ e.content ∷ nat_json e.ts ∷ option_json txn_json e.txn ∷ room_json e.room ∷ [])

abbrev pub draft_by : Option (List ℕ) → Option (Option (List ℕ)) → Option (List ℕ) → Json → Option ℕ → Option (Option Txn) → Option RoomId → Option Draft
draft_by (Some kind) (Some key) (Some sender) content (Some ts) (Some txn) (Some room) =
    Some (record { room = room; kind = kind; state_key = key; sender = sender; content = content; ts = ts; txn = txn })
draft_by kind key sender content ts txn room = None

abbrev pub draft_in : List Json → Option Draft
draft_in (kind ∷ key ∷ sender ∷ content ∷ ts ∷ txn ∷ room ∷ []) =
    draft_by (text_of kind) (option_read text_of key) (text_of sender) content (nat_of ts) (option_read txn_read txn) (room_read room)
draft_in js = None

abbrev pub draft_read : Json → Option Draft
draft_read j = option_and_then draft_in (list_of j)

-- ---- a receipt: user, room, whether it is private, event, time

abbrev pub is_private : ReceiptKind → Bool
is_private Read = false
is_private Private = true

abbrev pub kind_if : Bool → ReceiptKind
kind_if true = Private
kind_if false = Read

abbrev pub receipt_json : Receipt → Json
receipt_json r = json.List (json.Text r.user ∷ room_json r.room ∷ json.Bool (is_private r.kind) ∷ nat_json r.event.at ∷ nat_json r.ts ∷ [])

abbrev pub receipt_by : Option (List ℕ) → Option RoomId → Option Bool → Option ℕ → Option ℕ → Option Receipt
receipt_by (Some user) (Some room) (Some private) (Some event) (Some ts) =
    Some (record { room = room; user = user; kind = kind_if private; event = record { at = event }; ts = ts; at = 0 })
receipt_by user room private event ts = None

abbrev pub receipt_in : List Json → Option Receipt
receipt_in (user ∷ room ∷ private ∷ event ∷ ts ∷ []) = receipt_by (text_of user) (room_read room) (bool_of private) (nat_of event) (nat_of ts)
receipt_in js = None

abbrev pub receipt_read : Json → Option Receipt
receipt_read j = option_and_then receipt_in (list_of j)

-- ---- an entry: user, room, type, content; or user, id, filter

abbrev pub entry_json : Entry → Json
entry_json (entry.Data user room kind content at) = json.List (json.Text user ∷ option_json room_json room ∷ json.Text kind ∷ content ∷ [])
entry_json (entry.Filter user id filter at) = json.List (json.Text user ∷ nat_json id ∷ filter ∷ [])

abbrev pub data_by : Option (List ℕ) → Option (Option RoomId) → Option (List ℕ) → Json → Option Entry
data_by (Some user) (Some room) (Some kind) content = Some (entry.Data user room kind content 0)
data_by user room kind content = None

abbrev pub filter_by : Option (List ℕ) → Option ℕ → Json → Option Entry
filter_by (Some user) (Some id) filter = Some (entry.Filter user id filter 0)
filter_by user id filter = None

abbrev pub entry_in : List Json → Option Entry
entry_in (user ∷ room ∷ kind ∷ content ∷ []) = data_by (text_of user) (option_read room_read room) (text_of kind) content
entry_in (user ∷ id ∷ filter ∷ []) = filter_by (text_of user) (nat_of id) filter
entry_in js = None

abbrev pub entry_read : Json → Option Entry
entry_read j = option_and_then entry_in (list_of j)

-- ---- a store: the name of its stream, its writer, its items, its first position

pub record Line (T : Type 0) : Type 0 where
  pub name : List ℕ
  pub writer : ℕ
  pub items : List T
  pub first : ℕ

abbrev pub line_json : {A : Type 0} → (A → Json) → Line A → Json
line_json f l = json.List (json.Text l.name ∷ nat_json l.writer ∷ json.List (map f l.items) ∷ nat_json l.first ∷ [])

abbrev pub line_by : {B : Type 0} → Option (List ℕ) → Option ℕ → Option (List B) → Option ℕ → Option (Line B)
line_by (Some name) (Some writer) (Some items) (Some first) = Some (record { name = name; writer = writer; items = items; first = first })
line_by name writer items first = None

abbrev pub line_in : {B : Type 0} → (Json → Option B) → List Json → Option (Line B)
line_in f (name ∷ writer ∷ items ∷ first ∷ []) = line_by (text_of name) (nat_of writer) (each_of f items) (nat_of first)
line_in f js = None

abbrev pub line_read : {B : Type 0} → (Json → Option B) → Json → Option (Line B)
line_read f j = option_and_then (line_in f) (list_of j)
