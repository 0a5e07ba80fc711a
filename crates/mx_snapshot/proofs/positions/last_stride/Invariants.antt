use Rattle.mx_snapshot.proofs.Halving.{Strode}
use Rattle.mx_snapshot.proofs.positions.last_stride.Given as goal

abbrev pub invariant-strides : goal.invariant-strides
invariant-strides l = Strode l.positions l.last l.high l.initial.steps l.steps

abbrev pub decreases-strides : goal.decreases-strides
decreases-strides l = l.high
