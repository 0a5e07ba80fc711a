use Rattle.std.proofs.Common.{◌≡◌, ◌&&◌, is_some}
use Rattle.mx_window.specs.Lasts.{last_of}
use Rattle.mx_window.specs.Windows.{between}
use Rattle.mx_event.specs.Shown.{position_of}
use Rattle.mx_parts.specs.Gathers.{is_hidden}
use Rattle.mx_parts.specs.Readings.{events_of, front_of}
use Rattle.mx_parts.proofs.settling.last_break.Given as goal

-- none of the state events that were passed is a break
abbrev pub invariant-states : goal.invariant-states
invariant-states l =
    last_of (λ e. is_some e.state_key && is_hidden l.reading (events_of l.reading) (front_of l.reading) e) (between position_of 0 l.end (events_of l.reading))
    ≡ last_of (λ e. is_some e.state_key && is_hidden l.reading (events_of l.reading) (front_of l.reading) e) (between position_of 0 l.high (events_of l.reading))

abbrev pub decreases-states : goal.decreases-states
decreases-states l = l.end
