use Rattle.std.proofs.Common.{◌≡◌, ◌++◌, reverse}
use Rattle.mx_folding.specs.Sections.{sendable}
use Rattle.mx_snapshot.specs.Looks.{all_now}
use Rattle.mx_parts.specs.Readings.{events_of, front_of, room_in}
use Rattle.mx_parts.proofs.latest.walk_back.Given as goal

-- what may be sent before the end of the walk, and what was found
abbrev pub invariant-stretches : goal.invariant-stretches
invariant-stretches l =
    sendable (room_in l.reading) (events_of l.reading) (front_of l.reading) l.low l.end ++ reverse (all_now l.found.items)
    ≡ sendable (room_in l.reading) (events_of l.reading) (front_of l.reading) l.low l.high

abbrev pub decreases-stretches : goal.decreases-stretches
decreases-stretches l = l.end
