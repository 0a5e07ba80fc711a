use Rattle.std.proofs.Common.{◌≡◌}
use Rattle.mx_window.specs.Lasts.{last_of}
use Rattle.mx_window.specs.Windows.{between}
use Rattle.mx_event.specs.Lawful.{of_room}
use Rattle.mx_event.specs.Shown.{position_of}
use Rattle.mx_visible.specs.Walks.{joins}
use Rattle.mx_visible.proofs.joins.last_join.Given as goal

-- none of the user's member events that were passed joins
abbrev pub invariant-versions : goal.invariant-versions
invariant-versions l =
    last_of (joins l.user) (between position_of 0 l.last (of_room l.room l.events)) ≡ last_of (joins l.user) (between position_of 0 l.front (of_room l.room l.events))

abbrev pub decreases-versions : goal.decreases-versions
decreases-versions l = l.last
