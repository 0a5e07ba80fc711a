-- What is read of a line is what was written of a store.
use Rattle.std.specs.Prelude.{◌≡◌, map, Some}
use Rattle.mx_account.specs.declared.entry.Entry.{Entry}
use Rattle.mx_account.specs.declared.entry.Entry.TheVariants as entry
use Rattle.mx_event.specs.declared.draft.Draft.{Draft}
use Rattle.mx_event.specs.declared.event.Event.{Event}
use Rattle.mx_receipt.specs.declared.receipt.Receipt.{Receipt}
use Rattle.mx_records.specs.Records.{Line, draft_read, entry_json, entry_read, event_json, line_json, line_read, receipt_json, receipt_read}

-- an event as the draft that it was made of
abbrev pub drafted_of : Event → Draft
drafted_of e = record { room = e.room; kind = e.kind; state_key = e.state_key; sender = e.sender; content = e.content; ts = e.ts; txn = e.txn }

-- without a position
abbrev pub bare_receipt : Receipt → Receipt
bare_receipt r = record r { at = 0 }

abbrev pub bare_entry : Entry → Entry
bare_entry (entry.Data user room kind content at) = entry.Data user room kind content 0
bare_entry (entry.Filter user id filter at) = entry.Filter user id filter 0

abbrev pub with_items : {A B : Type 0} → (A → B) → Line A → Line B
with_items f l = record { name = l.name; writer = l.writer; items = map f l.items; first = l.first }

abbrev pub EventsReadBack : Type 0
EventsReadBack = (l : Line Event) → line_read draft_read (line_json event_json l) ≡ Some (with_items drafted_of l)

abbrev pub ReceiptsReadBack : Type 0
ReceiptsReadBack = (l : Line Receipt) → line_read receipt_read (line_json receipt_json l) ≡ Some (with_items bare_receipt l)

abbrev pub EntriesReadBack : Type 0
EntriesReadBack = (l : Line Entry) → line_read entry_read (line_json entry_json l) ≡ Some (with_items bare_entry l)
