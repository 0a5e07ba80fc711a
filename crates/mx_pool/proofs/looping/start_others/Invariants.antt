use Rattle.std.specs.Arc.{arc_value}
use Rattle.mx_serve.specs.OfEngine.Shown.{Ties}
use Rattle.mx_pool.proofs.looping.start_others.Given as goal

abbrev pub invariant-threads : goal.invariant-threads
invariant-threads g l = Ties (arc_value l.server).engine l.pass
