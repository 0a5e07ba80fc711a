-- The section of a room's timeline, and what of its state is sent.
use Rattle.std.specs.Prelude.{◌≡◌, ℕ, Bool, true, cond, List}
use Rattle.std.specs.List.{AllByRecursion}
use Rattle.std.specs.Prelude.{Some}
use Rattle.mx_event.specs.Lawful.{same_room}
use Rattle.mx_event.specs.declared.event.Event.{Event}
use Rattle.mx_folding.specs.Parts as parts
use Rattle.mx_folding.specs.Sections as sections
use Rattle.mx_snapshot.specs.Looks.{at_position}
use Rattle.mx_parts.specs.Readings.{events_of, front_of, room_in, window_of}
use Rattle.mx_parts.specs.declared.reading.Reading.{Reading}
use Rattle.mx_parts.specs.declared.window.Window.{Window}

-- the last events of the window that may be sent, above the last break
abbrev pub section_of : Reading → Window → List Event
section_of v w = sections.section (room_in v) (events_of v) (front_of v) (window_of w)

abbrev pub cut_of : Reading → Window → ℕ
cut_of v w = sections.cut (room_in v) (events_of v) (front_of v) (window_of w)

abbrev pub is_limited : Reading → Window → Bool
is_limited v w = sections.is_limited (room_in v) (events_of v) (front_of v) (window_of w)

-- of the state at q, what the filter passes and is picked
abbrev pub state_part : Reading → (Event → Bool) → ℕ → List Event
state_part v pick q = parts.state_part (room_in v) (events_of v) pick q

-- the state that a reply sends with the section of a window: at the window's end after the timeline, else before the section
abbrev pub state_of : Reading → Window → (List Event → Event → Bool) → List Event
state_of v w pick = state_part v (pick (section_of v w)) (cond w.after w.high (cut_of v w))

-- it is an event of the room, found at its position
abbrev pub IsListed : Reading → Event → Type 0
IsListed v e = (at_position v.events.now e.id.at ≡ Some e) × (same_room e.room v.room.now ≡ true)

abbrev pub AreListed : Reading → List Event → Type 0
AreListed v es = AllByRecursion (IsListed v) es
