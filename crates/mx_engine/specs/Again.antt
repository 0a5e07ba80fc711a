-- What a store that is made again adds to the histories.
use Rattle.std.specs.Prelude.{ℕ, List, [], ◌∷◌, ◌++◌}
use Rattle.mx_core.specs.declared.history.Stored.{Stored}
use Rattle.mx_core.specs.History.{own}
use Rattle.mx_writers.specs.Decision.{Decision, Placing, Stores, store_of}
use Rattle.mx_event.specs.Lawful.{placed_event}
use Rattle.mx_fold.specs.Lists.{Histories}
use Rattle.mx_aims.specs.EventsDecided.{decided_events}
use Rattle.mx_entries.specs.Decided.{decided_entries}
use Rattle.mx_entries.specs.Lawful.{entry_placed, receipt_placed}
use Rattle.mx_entries.specs.Receipts.{decided_receipts}
use Rattle.mx_engine.specs.declared.record.Again.{Again}
use Rattle.mx_engine.specs.declared.record.Record.{Record}
use Rattle.mx_engine.specs.declared.record.Record.TheVariants as record_of

-- the items that a decision stores
abbrev pub items_in : {I E : Type 0} → Decision I E → List I
items_in (Stores xs) = xs
items_in other = []

-- one store more: what its writer decides on the draft by its own stores, from its position on
abbrev pub with_again : {I D E : Type 0} → Placing I → (ℕ → List (Stored I) → D → Decision I E) → Again D → List (Stored I) → List (Stored I)
with_again place decides r old = old ++ store_of place r.writer r.first (items_in (decides r.writer (own old r.writer) r.draft)) ∷ []

abbrev pub with_record : Record → Histories → Histories
with_record (record_of.Events r) h = record h { events = with_again placed_event decided_events r h.events }
with_record (record_of.Receipts r) h = record h { receipts = with_again receipt_placed decided_receipts r h.receipts }
with_record (record_of.Accounts r) h = record h { accounts = with_again entry_placed decided_entries r h.accounts }

-- all of them, the first one first
abbrev pub with_records : List Record → Histories → Histories
with_records [] h = h
with_records (r ∷ rs) h = with_records rs (with_record r h)
