use Rattle.std.proofs.Common.{◌≡◌, ◌++◌, drop}
use Rattle.mx_snapshot.specs.Looks.{all_now}
use Rattle.mx_parts.specs.Sections.{AreListed}
use Rattle.mx_parts.specs.Shows as part
use Rattle.mx_parts.proofs.showing.all_shown.Given as goal

abbrev pub invariant-events : goal.invariant-events
invariant-events l =
    AreListed l.reading (all_now (drop l.event-index l.events))
    × (l.made.items ++ part.all_shown l.reading (all_now (drop l.event-index l.events)) ≡ part.all_shown l.reading (all_now l.events))
