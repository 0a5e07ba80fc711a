-- What a clause knows of the writers' values of an engine.
use Rattle.mx_account.specs.declared.entry.Entry.{Entry}
use Rattle.mx_aims.specs.declared.events.EventDraft.{EventDraft}
use Rattle.mx_aims.specs.declared.events.EventFault.{EventFault}
use Rattle.mx_entries.specs.declared.drafts.EntryDraft.{EntryDraft}
use Rattle.mx_entries.specs.declared.drafts.EntryFault.{EntryFault}
use Rattle.mx_entries.specs.declared.drafts.Never.{Never}
use Rattle.mx_entries.specs.declared.drafts.ReceiptDraft.{ReceiptDraft}
use Rattle.mx_event.specs.declared.event.Event.{Event}
use Rattle.mx_receipt.specs.declared.receipt.Receipt.{Receipt}
use Rattle.mx_core.specs.declared.placed.Placed as placed
use Rattle.mx_writers.specs.declared.folds.Folds.{Ghosts}

abbrev pub EventFolds : Type 0 → Type 1
EventFolds F = Ghosts F Event EventDraft EventFault

abbrev pub ReceiptFolds : Type 0 → Type 1
ReceiptFolds F = Ghosts F Receipt ReceiptDraft Never

abbrev pub EntryFolds : Type 0 → Type 1
EntryFolds F = Ghosts F Entry EntryDraft EntryFault

-- and of how their items are placed
abbrev pub EventPlacing : Type 1
EventPlacing = placed.Ghosts Event

abbrev pub ReceiptPlacing : Type 1
ReceiptPlacing = placed.Ghosts Receipt

abbrev pub EntryPlacing : Type 1
EntryPlacing = placed.Ghosts Entry
