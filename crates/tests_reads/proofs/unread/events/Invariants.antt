use Rattle.tests_reads.specs.OneRoom.{IsBuilt}
use Rattle.tests_reads.proofs.unread.events.Given as goal

abbrev pub invariant-rows : goal.invariant-rows
invariant-rows g l = IsBuilt l.state.events l.made.items
