use Rattle.std.proofs.Common.{◌≡◌, Some, take}
use Rattle.mx_records.specs.Values.{each}
use Rattle.mx_records.proofs.lines.read_items.Given as goal

abbrev pub invariant-values : goal.invariant-values
invariant-values g l = each g.I.Recorded.read (take l.value-index l.value-items) ≡ Some l.items
