use Rattle.std.proofs.Common.{◌≡◌, ◌≤◌, length, take}
use Rattle.mx_window.specs.Lasts.{last_of}
use Rattle.mx_receipt.specs.Receipts.{is_for, standing}
use Rattle.mx_receipt.proofs.reading.standing.Given as goal

-- the receipts that were passed are none of this room, user and kind
abbrev pub invariant-receipts : goal.invariant-receipts
invariant-receipts l =
    (l.position ≤ length l.list.items)
    × (last_of (is_for l.room l.user l.kind) (take l.position l.list.items) ≡ standing l.room l.user l.kind l.r l.list.items)

abbrev pub decreases-receipts : goal.decreases-receipts
decreases-receipts l = l.position
