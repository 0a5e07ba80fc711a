-- Which stores have values that are read back: no number is above 9,007,199,254,740,991.
use Rattle.std.specs.Prelude.{ℕ, ◌≤◌, Option, Some, None}
use Rattle.mx_ids.specs.declared.room_id.RoomId.{RoomId}
use Rattle.mx_account.specs.declared.entry.Entry.{Entry}
use Rattle.mx_account.specs.declared.entry.Entry.TheVariants as entry
use Rattle.mx_event.specs.declared.event.Event.{Event}
use Rattle.mx_receipt.specs.declared.receipt.Receipt.{Receipt}

abbrev pub IsSmall : ℕ → Type 0
IsSmall n = n ≤ 9007199254740991

abbrev pub RoomFits : Option RoomId → Type 0
RoomFits None = Unit {0}
RoomFits (Some r) = IsSmall r.at

abbrev pub EventFits : Event → Type 0
EventFits e = IsSmall e.ts × IsSmall e.room.at

abbrev pub ReceiptFits : Receipt → Type 0
ReceiptFits r = IsSmall r.room.at × IsSmall r.event.at × IsSmall r.ts

abbrev pub EntryFits : Entry → Type 0
EntryFits (entry.Data user room kind content at) = RoomFits room
EntryFits (entry.Filter user id filter at) = IsSmall id
