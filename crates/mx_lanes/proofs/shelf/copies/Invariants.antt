use Rattle.std.proofs.Common.{◌≡◌, take}
use Rattle.mx_lanes.proofs.shelf.copies.Given as goal

abbrev pub invariant-items : goal.invariant-items
invariant-items g l = l.made.items ≡ take l.item-index l.from
