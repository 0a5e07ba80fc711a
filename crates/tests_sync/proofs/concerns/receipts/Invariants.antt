use Rattle.mx_receipt.specs.Receipts.{AreInPlace}
use Rattle.tests_sync.proofs.concerns.receipts.Given as goal

abbrev pub invariant-rows : goal.invariant-rows
invariant-rows g l = AreInPlace l.made.items
