use Rattle.mx_receipt.specs.Receipts.{AreInPlace}
use Rattle.bench_reads.proofs.others.receipts.Given as goal

abbrev pub invariant-positions : goal.invariant-positions
invariant-positions l = AreInPlace l.made.items
