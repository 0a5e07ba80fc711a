use Rattle.mx_unread.specs.Standing.{Stand}
use Rattle.tests_reads.proofs.unread.counts_many.Given as goal

abbrev pub invariant-rooms : goal.invariant-rooms
invariant-rooms g l = Stand l.known l.kept
