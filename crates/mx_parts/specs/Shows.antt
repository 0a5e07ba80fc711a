-- What a reply sends of a room's events, with each event as it is shown to the user.
use Rattle.std.specs.Prelude.{◌≡◌, Bool, List, map}
use Rattle.mx_event.specs.declared.event.Event.{Event}
use Rattle.mx_event.specs.declared.event.Shown.{Shown}
use Rattle.mx_folding.specs.Parts.{Part, part_of}
use Rattle.mx_view.specs.Shows.{shown_for}
use Rattle.mx_parts.specs.Sections.{cut_of, is_limited, section_of, state_of}
use Rattle.mx_parts.specs.Readings.{events_of, front_of, room_in, window_of}
use Rattle.mx_parts.specs.declared.part.RoomPart.{RoomPart}
use Rattle.mx_parts.specs.declared.reading.Reading.{Reading}
use Rattle.mx_parts.specs.declared.window.Window.{Window}

abbrev pub all_shown : Reading → List Event → List Shown
all_shown v es = map (shown_for v.user.now (events_of v) (front_of v)) es

abbrev pub shown_part : Reading → Window → (List Event → Event → Bool) → RoomPart
shown_part v w pick = record {
  limited = is_limited v w;
  cut = cut_of v w;
  state = all_shown v (state_of v w pick);
  timeline = all_shown v (section_of v w);
}

-- what a client folds of it
abbrev pub part_from : RoomPart → Part Event
part_from p = record { limited = p.limited; cut = p.cut; state = map (λ (s : Shown). s.event) p.state; sent = map (λ (s : Shown). s.event) p.timeline }

-- It is *Reply*'s part of the room.
abbrev pub PartsAre : Type 0
PartsAre = (v : Reading) (w : Window) (pick : List Event → Event → Bool)
    → part_from (shown_part v w pick) ≡ part_of (room_in v) (events_of v) (front_of v) (window_of w) pick
