-- The first redaction among the events of all rooms is that of the event's own room.
use Rattle.std.specs.Prelude.{◌≡◌, ℕ, true, List, Some, nat_le}
use Rattle.mx_ids.specs.declared.room_id.RoomId.{RoomId}
use Rattle.mx_window.specs.Lasts.{keep_if}
use Rattle.mx_window.specs.Windows.{stand_from}
use Rattle.mx_event.specs.Lawful.{of_room}
use Rattle.mx_event.specs.Shown.{first_of, position_of, redactions}
use Rattle.mx_event.specs.Valid.{IsValid}
use Rattle.mx_event.specs.declared.event.Event.{Event}
use Rattle.mx_snapshot.specs.Events.{first_redaction}
use Rattle.mx_snapshot.specs.Looks.{at_position}

-- The events stand at their positions, and those of each room are valid. Then the first one that redacts an event, if it
-- lies up to a front, is the first of the event's redactions up to the front.
abbrev pub FirstsAreOfRoom : Type 0
FirstsAreOfRoom = (es : List Event) → stand_from position_of 1 es ≡ true → ((room : RoomId) → IsValid (of_room room es)) → (v : Event) → at_position es v.id.at ≡ Some v → (front : ℕ)
    → keep_if (λ (e : Event). nat_le e.id.at front) (first_redaction es v.id.at) ≡ first_of (redactions (of_room v.room es) v front)
