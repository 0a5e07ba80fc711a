use Rattle.mx_unread.specs.Standing.{Stand}
use Rattle.tests_reads.proofs.unread.list_goes_on.Given as goal

abbrev pub invariant-events : goal.invariant-events
invariant-events g l = Stand l.known l.kept
