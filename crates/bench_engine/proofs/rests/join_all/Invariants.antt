use Rattle.mx_engine.specs.Shown.{Ties}
use Rattle.bench_engine.proofs.rests.join_all.Given as goal

abbrev pub invariant-users : goal.invariant-users
invariant-users g l = Ties l.engine l.pass
