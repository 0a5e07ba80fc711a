use Rattle.mx_snapshot.specs.declared.snapshot.Snapshot.{Snapshot}
use Rattle.mx_unread.specs.Cached.{AreStanding}
use Rattle.mx_unread.proofs.held.Held.drop_oldest.Given as goal

abbrev pub invariant-tallies : goal.invariant-tallies
invariant-tallies l = (s : Snapshot) → AreStanding s l.fn.self.cache.entries → AreStanding s l.self.cache.entries
