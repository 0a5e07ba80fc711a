use Rattle.mx_snapshot.proofs.Walked.{Walked}
use Rattle.mx_snapshot.proofs.last_versions.last_versions.Given as goal

abbrev pub invariant-kinds : goal.invariant-kinds
invariant-kinds l = Walked l.last l.found.items l.entry-iterator l.kinds.entries
