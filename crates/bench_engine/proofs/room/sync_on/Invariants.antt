use Rattle.mx_engine.specs.Shown.{Ties}
use Rattle.bench_engine.proofs.room.sync_on.Given as goal

abbrev pub invariant-syncs : goal.invariant-syncs
invariant-syncs g l = Ties l.engine l.pass
