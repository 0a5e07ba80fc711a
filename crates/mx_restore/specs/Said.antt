-- What the lines of a journal say.
use Rattle.std.specs.Prelude.{◌≡◌, ◌⊎◌, ℕ, List, [], ◌∷◌, Ok, Option, Some, None, codes, option_and_then}
use Rattle.mx_account.specs.declared.entry.Entry.{Entry}
use Rattle.mx_again.specs.Drafts.{entry_draft, receipt_draft}
use Rattle.mx_aims.specs.Again.{plan_by}
use Rattle.mx_aims.specs.EventsDecided.{plan_of}
use Rattle.mx_engine.specs.declared.record.Record.{Record}
use Rattle.mx_engine.specs.declared.record.Record.TheVariants as stores
use Rattle.mx_entries.specs.declared.drafts.EntryDraft.{EntryDraft}
use Rattle.mx_event.specs.declared.draft.Draft.{Draft}
use Rattle.mx_json.specs.Fields.{list_of, text_of}
use Rattle.mx_json.specs.Reading.{read_json}
use Rattle.mx_json.specs.declared.value.Json.{Json}
use Rattle.mx_receipt.specs.declared.receipt.Receipt.{Receipt}
use Rattle.mx_records.specs.Records.{draft_read, entry_read, line_read, receipt_read}
use Rattle.mx_records.specs.Texts.{stream_text}
use Rattle.mx_wait.specs.declared.names.StreamName.TheVariants.{Accounts, Events, Receipts}

-- one entry says this draft
abbrev pub SaysEntry : List Entry → EntryDraft → Type 0
SaysEntry xs d = (x : Entry) × (xs ≡ x ∷ []) × (d ≡ entry_draft x)

-- a value says a store
abbrev pub Says : Json → Record → Type 0
Says j (stores.Events r) = (ds : List Draft) × (line_read draft_read j ≡ Some (record { name = stream_text Events; writer = r.writer; items = ds; first = r.first })) × (plan_of r.draft ≡ plan_by ds)
Says j (stores.Receipts r) = (xs : List Receipt) × (line_read receipt_read j ≡ Some (record { name = stream_text Receipts; writer = r.writer; items = xs; first = r.first })) × (receipt_draft xs ≡ Some r.draft)
Says j (stores.Accounts r) = (xs : List Entry) × (line_read entry_read j ≡ Some (record { name = stream_text Accounts; writer = r.writer; items = xs; first = r.first })) × SaysEntry xs r.draft

-- a text says a store
abbrev pub SaysText : List ℕ → Record → Type 0
SaysText text r = (j : Json) × (read_json text ≡ Ok j) × Says j r

-- what a value begins with
abbrev pub first_text : List Json → Option (List ℕ)
first_text [] = None
first_text (j ∷ js) = text_of j

abbrev pub name_of : Json → Option (List ℕ)
name_of j = option_and_then first_text (list_of j)

-- a value is that of a first line, or of devices
abbrev pub IsOtherValue : Json → Type 0
IsOtherValue j = (name_of j ≡ Some (codes "mxsync")) ⊎ (name_of j ≡ Some (codes "devices"))

abbrev pub IsOther : List ℕ → Type 0
IsOther text = (j : Json) × (read_json text ≡ Ok j) × IsOtherValue j

-- texts say these stores, in their order; beside these are first lines and lines of devices
abbrev pub SayAll : List (List ℕ) → List Record → Type 0
SayAll [] rs = rs ≡ []
SayAll (t ∷ ts) rs = (IsOther t × SayAll ts rs) ⊎ ((r : Record) × (more : List Record) × (rs ≡ r ∷ more) × SaysText t r × SayAll ts more)
