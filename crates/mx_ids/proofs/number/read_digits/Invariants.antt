use Rattle.std.proofs.Common.{◌≡◌, ◌^◌, ◌-◌, length}
use Rattle.mx_ids.specs.Decimal.{digits_behind}
use Rattle.mx_ids.proofs.number.read_digits.Given as goal

abbrev pub invariant-loop-rest : goal.invariant-loop-rest
invariant-loop-rest l = digits_behind (2 ^ 64 - 1) l.number l.rest ≡ digits_behind (2 ^ 64 - 1) 0 l.bytes

abbrev pub decreases-loop-rest : goal.decreases-loop-rest
decreases-loop-rest l = length l.rest
