use Rattle.std.proofs.Common.{◌≡◌}
use Rattle.mx_window.specs.Lasts.{last_of}
use Rattle.mx_window.specs.Windows.{between}
use Rattle.mx_event.specs.Lawful.{of_room}
use Rattle.mx_event.specs.Shown.{position_of}
use Rattle.mx_folding.specs.Visible.{is_visible}
use Rattle.mx_view.specs.Readings.{viewer_of}
use Rattle.mx_visible.proofs.marks.last_visible.Given as goal

-- none of the events that were passed is visible
abbrev pub invariant-marks : goal.invariant-marks
invariant-marks l =
    last_of (is_visible (viewer_of l.user) (of_room l.room l.events) l.front) (between position_of 0 l.end (of_room l.room l.events))
    ≡ last_of (is_visible (viewer_of l.user) (of_room l.room l.events) l.front) (between position_of 0 l.high (of_room l.room l.events))

abbrev pub decreases-marks : goal.decreases-marks
decreases-marks l = l.end
