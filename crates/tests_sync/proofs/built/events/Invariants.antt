use Rattle.tests_sync.specs.OneRoom.{IsBuilt}
use Rattle.tests_sync.proofs.built.events.Given as goal

abbrev pub invariant-rows : goal.invariant-rows
invariant-rows g l = IsBuilt l.state.events l.made.items
