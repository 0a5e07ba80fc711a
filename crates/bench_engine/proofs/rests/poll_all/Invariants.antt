use Rattle.std.specs.List.{All}
use Rattle.bench_engine.specs.Rests.{RestsOn}
use Rattle.bench_engine.proofs.rests.poll_all.Given as goal

abbrev pub invariant-syncs : goal.invariant-syncs
invariant-syncs g l = All (RestsOn l.engine) l.resting-items
