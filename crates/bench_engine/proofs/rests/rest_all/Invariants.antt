use Rattle.std.specs.List.{All}
use Rattle.mx_engine.specs.Shown.{Ties}
use Rattle.bench_engine.specs.Rests.{RestsOn}
use Rattle.bench_engine.proofs.rests.rest_all.Given as goal

abbrev pub invariant-users : goal.invariant-users
invariant-users g l = Ties l.engine l.pass × All (RestsOn l.engine) l.all.items
