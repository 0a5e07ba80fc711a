-- The state of a room at a position: of its state events those that are the last of their key.
use Rattle.std.specs.Prelude.{ℕ, Bool, false, ◌==◌, List, Option, Some, None, filter}
use Rattle.mx_ids.specs.declared.room_id.RoomId.{RoomId}
use Rattle.mx_window.specs.Windows.{between}
use Rattle.mx_event.specs.Lawful.{of_room}
use Rattle.mx_event.specs.Shown.{position_of}
use Rattle.mx_event.specs.State.{standing}
use Rattle.mx_event.specs.declared.event.Event.{Event}
use Rattle.mx_snapshot.specs.Events.{states}

abbrev pub is_at : ℕ → Option Event → Bool
is_at at None = false
is_at at (Some e) = e.id.at == at

abbrev pub stands_under : List Event → ℕ → Event → Option (List ℕ) → Bool
stands_under es to e None = false
stands_under es to e (Some key) = is_at e.id.at (standing e.kind key (between position_of 0 to es))

-- an event is the last of its key among the events of its room up to a position
abbrev pub stands : List Event → ℕ → Event → Bool
stands es to e = stands_under es to e e.state_key

-- what stands at the second position, of the state events between the two
abbrev pub standing_in : RoomId → ℕ → ℕ → List Event → List Event
standing_in room from to es = filter (stands (of_room room es) to) (between position_of from to (states room es))
