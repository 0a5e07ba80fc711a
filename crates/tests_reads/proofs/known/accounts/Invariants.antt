use Rattle.mx_account.specs.Values.{AreInPlace}
use Rattle.tests_reads.proofs.known.accounts.Given as goal

abbrev pub invariant-rows : goal.invariant-rows
invariant-rows g l = AreInPlace l.made.items
