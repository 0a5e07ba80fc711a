use Rattle.mx_account.specs.Values.{AreInPlace}
use Rattle.bench_reads.proofs.others.accounts.Given as goal

abbrev pub invariant-positions : goal.invariant-positions
invariant-positions l = AreInPlace l.made.items
