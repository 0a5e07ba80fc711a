use Rattle.std.proofs.Common.{◌≡◌, ◌+◌, length, decimal}
use Rattle.mx_json.proofs.size.number_size.Given as goal

abbrev pub invariant-loop-rest : goal.invariant-loop-rest
invariant-loop-rest l = l.size + length (decimal l.rest) ≡ 1 + length (decimal l.n)

abbrev pub decreases-loop-rest : goal.decreases-loop-rest
decreases-loop-rest l = l.rest
