use Rattle.std.proofs.Common.{◌≡◌}
use Rattle.mx_window.specs.Lasts.{last_of}
use Rattle.mx_window.specs.Windows.{between}
use Rattle.mx_event.specs.Lawful.{of_room}
use Rattle.mx_event.specs.Shown.{position_of}
use Rattle.mx_lazy.specs.Stays.{leaves}
use Rattle.mx_lazy.proofs.staying.has_left_after.Given as goal

-- by none of the user's member events that were passed it leaves
abbrev pub invariant-versions : goal.invariant-versions
invariant-versions l =
    last_of (leaves l.user) (between position_of 0 l.last (of_room l.room l.events)) ≡ last_of (leaves l.user) (between position_of 0 l.since (of_room l.room l.events))

abbrev pub decreases-versions : goal.decreases-versions
decreases-versions l = l.last
