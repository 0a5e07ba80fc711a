-- Whether a room is there, and where in its history a user reads its state.
use Rattle.std.specs.Prelude.{ℕ, Bool, cond, List, length, Option, Some, option_map}
use Rattle.std.specs.List.{list_any}
use Rattle.mx_ids.specs.declared.room_id.RoomId.{RoomId}
use Rattle.mx_event.specs.Lawful.{same_room}
use Rattle.mx_event.specs.Shown.{position_of}
use Rattle.mx_event.specs.declared.event.Event.{Event}
use Rattle.mx_folding.specs.Visible.{joined_at}
use Rattle.mx_fold.specs.Lists.{Lists, events_in}
use Rattle.mx_view.specs.Left.{left_by}
use Rattle.mx_view.specs.Readings.{viewer_of}

-- the front of events
abbrev pub front_of : Lists → ℕ
front_of l = length l.events

-- an event is of the room
abbrev pub has_room : Lists → RoomId → Bool
has_room l room = list_any (λ (e : Event). same_room e.room room) l.events

-- the user is joined at the front
abbrev pub is_joined : Lists → List ℕ → RoomId → Bool
is_joined l user room = joined_at (viewer_of user) (events_in l room) (front_of l)

-- the position of the member event by which the latest stay of a user ended that isn't joined
abbrev pub end_of : Lists → List ℕ → RoomId → Option ℕ
end_of l user room = option_map position_of (left_by (viewer_of user) (events_in l room))

-- where the user reads the state: at the front if it is joined, else where its latest stay ended. One that was never joined
-- reads nothing
abbrev pub place_of : Lists → List ℕ → RoomId → Option ℕ
place_of l user room = cond (is_joined l user room) (Some (front_of l)) (end_of l user room)
