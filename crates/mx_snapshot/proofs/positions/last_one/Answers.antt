use Rattle.std.proofs.Common.{arith}
use Rattle.mx_snapshot.proofs.Lasting.{no_last, one_last}
use Rattle.mx_snapshot.proofs.positions.last_one.Goals as goal

pub returns-then-count-eq0 : goal.returns-then-count-eq0
returns-then-count-eq0 c = no_last c.args.positions.now c.if-count-eq0.true

pub returns-else-count-eq0 : goal.returns-else-count-eq0
returns-else-count-eq0 c = one_last c.args.positions.now _ 0 (omega (arith, c.if-count-eq0.false))
