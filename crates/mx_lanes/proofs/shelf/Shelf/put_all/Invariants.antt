use Rattle.std.proofs.Common.{◌≡◌, ◌++◌, take}
use Rattle.mx_lanes.proofs.shelf.Shelf.put_all.Given as goal

abbrev pub invariant-items : goal.invariant-items
invariant-items g l = l.self ≡ l.initial.self ++ take l.item-index l.items
