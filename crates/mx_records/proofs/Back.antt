-- What is written is read.
use Rattle.std.proofs.Common.{◌≡◌, ℕ, pos, Bool, false, List, [], ◌∷◌, map, Option, Some, None, option_and_then, refl, ap, ap₂, ◌∙◌}
use Rattle.mx_ids.specs.declared.room_id.RoomId.{RoomId}
use Rattle.mx_account.specs.declared.entry.Entry.{Entry}
use Rattle.mx_account.specs.declared.entry.Entry.TheVariants as entry
use Rattle.mx_event.specs.declared.event.Event.{Event}
use Rattle.mx_event.specs.declared.event.Txn.{Txn}
use Rattle.mx_json.specs.Fields.{bool_in, bool_of, int_in, list_in, list_of, text_in, text_of}
use Rattle.mx_json.specs.declared.value.Json.{Json}
use Rattle.mx_json.specs.declared.value.Json.TheVariants as json
use Rattle.mx_json.specs.declared.value.Json.TheViews.{outs-Bool, outs-Int, outs-List, outs-Null, outs-Text}
use Rattle.mx_receipt.specs.declared.receipt.Receipt.{Receipt}
use Rattle.mx_receipt.specs.declared.receipt.ReceiptKind.{ReceiptKind}
use Rattle.mx_receipt.specs.declared.receipt.ReceiptKind.TheVariants.{Read, Private}
use Rattle.mx_records.specs.Values.{cons_read, each, each_of, is_null, is_null_in, nat_from, nat_json, nat_of, option_json, option_read, room_by, room_in, room_json, room_read, txn_by, txn_in, txn_json, txn_read, unless_null}
use Rattle.mx_records.specs.Records.{Line, data_by, draft_by, draft_in, draft_read, entry_in, entry_json, entry_read, event_json, filter_by, is_private, kind_if, line_by, line_in, line_json, line_read, receipt_by, receipt_in, receipt_json, receipt_read}
use Rattle.mx_records.specs.Laws.{EntriesReadBack, EventsReadBack, ReceiptsReadBack, bare_entry, bare_receipt, drafted_of, with_items}

-- ---- values

list_back : (js : List Json) → list_of (json.List js) ≡ Some js
list_back js = ap list_in (outs-List js)

text_back : (t : List ℕ) → text_of (json.Text t) ≡ Some t
text_back t = ap text_in (outs-Text t)

bool_back : (b : Bool) → bool_of (json.Bool b) ≡ Some b
bool_back b = ap bool_in (outs-Bool b)

nat_back : (n : ℕ) → nat_of (nat_json n) ≡ Some n
nat_back n = ap (λ y. option_and_then nat_from (int_in y)) (outs-Int (pos n))

each_back : {A B : Type 0} (write : A → Json) (read : Json → Option B) (f : A → B) → ((x : A) → read (write x) ≡ Some (f x)) → (xs : List A) → each read (map write xs) ≡ Some (map f xs)
each_back write read f back [] = refl
each_back write read f back (x ∷ xs) = ap₂ cons_read (back x) (each_back write read f back xs)

list_each : {A B : Type 0} (write : A → Json) (read : Json → Option B) (f : A → B) → ((x : A) → read (write x) ≡ Some (f x)) → (xs : List A) → each_of read (json.List (map write xs)) ≡ Some (map f xs)
list_each write read f back xs = ap (option_and_then (each read)) (list_back (map write xs)) ∙ each_back write read f back xs

-- what may be absent, where what is written isn't null
option_back : {A : Type 0} (write : A → Json) (read : Json → Option A) → ((x : A) → is_null (write x) ≡ false) → ((x : A) → read (write x) ≡ Some x) → (o : Option A) → option_read read (option_json write o) ≡ Some o
option_back write read some back None = ap (λ y. unless_null (is_null_in y) (read json.Null)) outs-Null
option_back write read some back (Some x) = ap₂ unless_null (some x) (back x)

text_some : (t : List ℕ) → is_null (json.Text t) ≡ false
text_some t = ap is_null_in (outs-Text t)

list_some : (js : List Json) → is_null (json.List js) ≡ false
list_some js = ap is_null_in (outs-List js)

room_back : (r : RoomId) → room_read (room_json r) ≡ Some r
room_back r = ap (option_and_then room_in) (list_back (nat_json r.writer ∷ nat_json r.at ∷ [])) ∙ ap₂ room_by (nat_back r.writer) (nat_back r.at)

same_list : {A : Type 0} (xs : List A) → map (λ x. x) xs ≡ xs
same_list [] = refl
same_list (x ∷ xs) = ap (λ l. x ∷ l) (same_list xs)

path_back : (ts : List (List ℕ)) → each_of text_of (json.List (map json.Text ts)) ≡ Some ts
path_back ts = list_each json.Text text_of (λ t. t) text_back ts ∙ ap Some (same_list ts)

txn_back : (t : Txn) → txn_read (txn_json t) ≡ Some t
txn_back t =
    ap (option_and_then txn_in) (list_back (nat_json t.device ∷ json.Text t.id ∷ json.List (map json.Text t.path) ∷ []))
    ∙ (λ i. txn_by (nat_back t.device i) (text_back t.id i) (path_back t.path i))

-- ---- items

event_back : (e : Event) → draft_read (event_json e) ≡ Some (drafted_of e)
event_back e =
    ap (option_and_then draft_in) (list_back _)
    ∙ (λ i. draft_by (text_back e.kind i) (option_back json.Text text_of text_some text_back e.state_key i) (text_back e.sender i) e.content (nat_back e.ts i) (option_back txn_json txn_read (λ t. list_some _) txn_back e.txn i) (room_back e.room i))

kind_back : (kind : ReceiptKind) → kind_if (is_private kind) ≡ kind
kind_back Read = refl
kind_back Private = refl

receipt_back : (r : Receipt) → receipt_read (receipt_json r) ≡ Some (bare_receipt r)
receipt_back r =
    ap (option_and_then receipt_in) (list_back _)
    ∙ ((λ i. receipt_by (text_back r.user i) (room_back r.room i) (bool_back (is_private r.kind) i) (nat_back r.event.at i) (nat_back r.ts i))
    ∙ ap (λ kind. Some (record (bare_receipt r) { kind = kind })) (kind_back r.kind))

entry_back : (e : Entry) → entry_read (entry_json e) ≡ Some (bare_entry e)
entry_back (entry.Data user room kind content at) =
    ap (option_and_then entry_in) (list_back _)
    ∙ (λ i. data_by (text_back user i) (option_back room_json room_read (λ r. list_some _) room_back room i) (text_back kind i) content)
entry_back (entry.Filter user id filter at) = ap (option_and_then entry_in) (list_back _) ∙ (λ i. filter_by (text_back user i) (nat_back id i) filter)

-- ---- lines

line_back : {A B : Type 0} (write : A → Json) (read : Json → Option B) (f : A → B) → ((x : A) → read (write x) ≡ Some (f x)) → (l : Line A) → line_read read (line_json write l) ≡ Some (with_items f l)
line_back write read f back l =
    ap (option_and_then (line_in read)) (list_back _)
    ∙ (λ i. line_by (text_back l.name i) (nat_back l.writer i) (list_each write read f back l.items i) (nat_back l.first i))

pub events_back : EventsReadBack
events_back l = line_back event_json draft_read drafted_of event_back l

pub receipts_back : ReceiptsReadBack
receipts_back l = line_back receipt_json receipt_read bare_receipt receipt_back l

pub entries_back : EntriesReadBack
entries_back l = line_back entry_json entry_read bare_entry entry_back l
