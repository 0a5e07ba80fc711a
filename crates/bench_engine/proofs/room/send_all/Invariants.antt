use Rattle.mx_engine.specs.Shown.{Ties}
use Rattle.bench_engine.proofs.room.send_all.Given as goal

abbrev pub invariant-sends : goal.invariant-sends
invariant-sends g l = Ties l.engine l.pass
