use Rattle.std.proofs.Common.{◌-◌, leb, arith}
use Rattle.mx_snapshot.proofs.Lasting.{last_none, last_some}
use Rattle.mx_snapshot.proofs.positions.last_to.Goals as goal

pub returns-then-count-eq0-clause-found : goal.returns-then-count-eq0-clause-found
returns-then-count-eq0-clause-found c = last_none (λ p. leb p c.args.last) c.args.positions.now c.count_to-count.result c.if-count-eq0.true c.count_to-count.ensures.front

pub returns-else-count-eq0-clause-found : goal.returns-else-count-eq0-clause-found
returns-else-count-eq0-clause-found c =
    let n = c.count_to-count.result in
    last_some (λ p. leb p c.args.last) c.args.positions.now n (n - 1) 0 (omega (arith, c.if-count-eq0.false)) c.count_to-count.ensures.bound c.count_to-count.ensures.front
