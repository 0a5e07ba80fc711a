use Rattle.std.proofs.Common.{◌≡◌, true}
use Rattle.mx_window.specs.Windows.{stand_from}
use Rattle.mx_event.specs.Shown.{position_of}
use Rattle.bench_reads.proofs.history.events.Given as goal

abbrev pub invariant-positions : goal.invariant-positions
invariant-positions l = stand_from position_of 1 l.made.items ≡ true
