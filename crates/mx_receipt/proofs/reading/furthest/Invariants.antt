use Rattle.std.proofs.Common.{◌≡◌, ◌≤◌, length, max, take}
use Rattle.mx_receipt.specs.Receipts.{furthest, furthest_in}
use Rattle.mx_receipt.proofs.reading.furthest.Given as goal

abbrev pub invariant-receipts : goal.invariant-receipts
invariant-receipts l =
    (l.position ≤ length l.list.items)
    × (max l.event (furthest_in l.room l.user (take l.position l.list.items)) ≡ furthest l.room l.user l.r l.list.items)

abbrev pub decreases-receipts : goal.decreases-receipts
decreases-receipts l = l.position
