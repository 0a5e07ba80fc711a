-- Who stays in a room, and when its summary stays the same.
use Rattle.std.specs.Prelude.{◌≡◌, ℕ, ◌≤◌, Bool, false, not, ◌&&◌, List}
use Rattle.std.specs.List.{list_any}
use Rattle.mx_window.specs.Windows.{Ascends, between}
use Rattle.mx_event.specs.Shown.{position_of}
use Rattle.mx_event.specs.declared.event.Event.{Event}
use Rattle.mx_folding.specs.Visible.{is_join}
use Rattle.mx_view.specs.Readings.{is_own, membership_of}
use Rattle.mx_lazy.specs.Members.{is_member}
use Rattle.mx_lazy.specs.Summaries.{summary_at}

-- the user's member event by which it isn't joined
abbrev pub leaves : List ℕ → Event → Bool
leaves user e = is_own user e && not (is_join (membership_of e))

-- A summary is the same at two positions between which there is no member event of the room.
abbrev pub SummaryStays : Type 0
SummaryStays = (user : List ℕ) (es : List Event) (i j : ℕ) → Ascends position_of 0 es → i ≤ j
    → list_any is_member (between position_of i j es) ≡ false → summary_at user es j ≡ summary_at user es i
