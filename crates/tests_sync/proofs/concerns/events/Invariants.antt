use Rattle.std.proofs.Common.{◌≡◌, true}
use Rattle.mx_window.specs.Windows.{stand_from}
use Rattle.mx_event.specs.Shown.{position_of}
use Rattle.tests_sync.proofs.concerns.events.Given as goal

abbrev pub invariant-rows : goal.invariant-rows
invariant-rows g l = stand_from position_of 1 l.made.items ≡ true
