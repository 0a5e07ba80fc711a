use Rattle.mx_unread.specs.Kept.{StandsFor}
use Rattle.tests_reads.proofs.unread.goes_on.Given as goal

abbrev pub invariant-events : goal.invariant-events
invariant-events g l = StandsFor l.on l.known
