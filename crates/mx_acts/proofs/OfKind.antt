-- An act of a kind.
use Rattle.std.proofs.Common.{◌≡◌, List, refl}
use Rattle.mx_event.specs.declared.event.Event.{Event}
use Rattle.mx_fold.specs.Lists.{Lists}
use Rattle.mx_ask.specs.declared.said.Said.{Said}
use Rattle.mx_aims.specs.Asked.{Aimed}
use Rattle.mx_aims.specs.Stored.{EntryAimed, NoteAimed, ReceiptAimed}
use Rattle.mx_acts.specs.declared.kind.ActKind.TheVariants as kind
use Rattle.mx_acts.specs.Acts.{Act, Files, Marks, Notes, Puts, Reads, Sends, kind_in}

pub reads_of : (act : Act) → kind_in act ≡ kind.Reads → (reads : Lists → Said) × (act ≡ Reads reads)
reads_of (Reads reads) is = (reads, refl)
reads_of (Sends aimed) is = absurd cc
reads_of (Files k user filter) is = absurd cc
reads_of (Puts aims) is = absurd cc
reads_of (Marks aims) is = absurd cc
reads_of (Notes aims) is = absurd cc

pub sends_of : (act : Act) → kind_in act ≡ kind.Sends → (aimed : Aimed) × (act ≡ Sends aimed)
sends_of (Reads reads) is = absurd cc
sends_of (Sends aimed) is = (aimed, refl)
sends_of (Files k user filter) is = absurd cc
sends_of (Puts aims) is = absurd cc
sends_of (Marks aims) is = absurd cc
sends_of (Notes aims) is = absurd cc

pub puts_of : (act : Act) → kind_in act ≡ kind.Puts → (aims : List Event → EntryAimed) × (act ≡ Puts aims)
puts_of (Reads reads) is = absurd cc
puts_of (Sends aimed) is = absurd cc
puts_of (Files k user filter) is = absurd cc
puts_of (Puts aims) is = (aims, refl)
puts_of (Marks aims) is = absurd cc
puts_of (Notes aims) is = absurd cc

pub marks_of : (act : Act) → kind_in act ≡ kind.Marks → (aims : List Event → ReceiptAimed) × (act ≡ Marks aims)
marks_of (Reads reads) is = absurd cc
marks_of (Sends aimed) is = absurd cc
marks_of (Files k user filter) is = absurd cc
marks_of (Puts aims) is = absurd cc
marks_of (Marks aims) is = (aims, refl)
marks_of (Notes aims) is = absurd cc

pub notes_of : (act : Act) → kind_in act ≡ kind.Notes → (aims : List Event → NoteAimed) × (act ≡ Notes aims)
notes_of (Reads reads) is = absurd cc
notes_of (Sends aimed) is = absurd cc
notes_of (Files k user filter) is = absurd cc
notes_of (Puts aims) is = absurd cc
notes_of (Marks aims) is = absurd cc
notes_of (Notes aims) is = (aims, refl)
