use Rattle.std.proofs.Common.{◌≡◌, map, take}
use Rattle.mx_records.proofs.texts.items_value.Given as goal

abbrev pub invariant-items : goal.invariant-items
invariant-items g l = l.values ≡ map g.I.Recorded.value (take l.item-index l.item-items)
