use Rattle.std.proofs.Common.{◌-◌}
use Rattle.mx_snapshot.proofs.Halving.{Halved}
use Rattle.mx_snapshot.proofs.positions.halve.Given as goal

abbrev pub invariant-halves : goal.invariant-halves
invariant-halves l = Halved l.positions l.last l.from l.end l.low l.high l.initial.steps l.steps

abbrev pub decreases-halves : goal.decreases-halves
decreases-halves l = l.high - l.low
