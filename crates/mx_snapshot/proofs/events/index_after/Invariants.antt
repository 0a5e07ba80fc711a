use Rattle.std.proofs.Common.{take}
use Rattle.mx_snapshot.specs.Indexed.{IsIndexed}
use Rattle.mx_snapshot.proofs.events.index_after.Given as goal

abbrev pub invariant-events : goal.invariant-events
invariant-events l = IsIndexed l.index (take l.position l.events.items)
