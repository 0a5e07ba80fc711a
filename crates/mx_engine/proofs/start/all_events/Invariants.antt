use Rattle.mx_writers.specs.Start.{AreFreshFolds}
use Rattle.mx_engine.proofs.start.all_events.Given as goal

abbrev pub invariant-writers : goal.invariant-writers
invariant-writers g l = AreFreshFolds g.G.Events.Folds.writer g.G.Events.Folds.own l.writer l.all
