use Rattle.std.proofs.Common.{arith}
use Rattle.mx_snapshot.proofs.Lasting.{final_none, final_some}
use Rattle.mx_snapshot.proofs.positions.top.Goals as goal

pub returns-then-count-eq0 : goal.returns-then-count-eq0
returns-then-count-eq0 c = final_none c.args.positions.now c.if-count-eq0.true

pub returns-else-count-eq0 : goal.returns-else-count-eq0
returns-else-count-eq0 c = final_some c.args.positions.now _ 0 (omega (arith, c.if-count-eq0.false))
