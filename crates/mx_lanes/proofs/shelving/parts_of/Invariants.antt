use Rattle.std.proofs.Common.{◌≡◌, take}
use Rattle.mx_lanes.proofs.shelving.parts_of.Given as goal

abbrev pub invariant-items : goal.invariant-items
invariant-items g l = l.shelf ≡ take l.item-index l.items
