use Rattle.std.proofs.Common.{◌≡◌, length}
use Rattle.tests_streams.proofs.streams.numbers.Given as goal

abbrev pub invariant-values : goal.invariant-values
invariant-values l = length l.items ≡ l.value
