-- What may be sent of the events that are seen, and the last of it.
use Rattle.std.specs.Prelude.{◌≡◌, ℕ, ◌<◌, Bool, not, ◌&&◌, List, [], ◌∷◌, ◌++◌, ◌⊎◌, length, reverse, if◌then◌else◌}
use Rattle.mx_event.specs.declared.event.Event.{Event}
use Rattle.mx_folding.specs.Sections as sections
use Rattle.mx_folding.specs.Visible.{is_visible}
use Rattle.mx_view.specs.Readings.{viewer_of}
use Rattle.mx_view.specs.Rooms.{Sieve}
use Rattle.mx_parts.specs.Readings.{events_of, front_of, room_in, sieve}
use Rattle.mx_parts.specs.declared.reading.Reading.{Reading}

-- the user sees the event and the timeline filter passes it
abbrev pub is_sent : Sieve → Event × Bool → Bool
is_sent f p = p.1 && f.passes p.0

-- the event, if it is sent
abbrev pub one_sent : Sieve → Event × Bool → List Event
one_sent f p = if is_sent f p then p.0 ∷ [] else []

abbrev pub all_sent : Sieve → List (Event × Bool) → List Event
all_sent f [] = []
all_sent f (p ∷ ps) = one_sent f p ++ all_sent f ps

-- the last events of a window that may be sent, in falling order: all of them, or more than `most`
abbrev pub IsWalked : Reading → ℕ → ℕ → ℕ → List Event → Type 0
IsWalked v low high most found =
    (rest : List Event) × (sections.sendable (room_in v) (events_of v) (front_of v) low high ≡ rest ++ reverse found) × ((rest ≡ []) ⊎ (most < length found))

-- the state filter passes the event of a room with these events, and it isn't sent
abbrev pub is_hidden : Reading → List Event → ℕ → Event → Bool
is_hidden v es front e = (sieve v).keeps e && not (is_visible (viewer_of v.user.now) es front e && (sieve v).passes e)
