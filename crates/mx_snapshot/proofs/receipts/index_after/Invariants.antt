use Rattle.std.proofs.Common.{take}
use Rattle.mx_snapshot.specs.Receipts.{IsIndexed}
use Rattle.mx_snapshot.proofs.receipts.index_after.Given as goal

abbrev pub invariant-receipts : goal.invariant-receipts
invariant-receipts l = IsIndexed l.index (take l.position l.receipts.items)
