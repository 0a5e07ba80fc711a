-- The members of a room.
use Rattle.std.specs.Prelude.{ℕ, ◌&&◌, Bool, true, false, List, [], filter, is_some}
use Rattle.mx_window.specs.Lasts.{current}
use Rattle.mx_window.specs.Windows.{between}
use Rattle.mx_event.specs.Kinds.{is_of, member_type}
use Rattle.mx_event.specs.Shown.{position_of}
use Rattle.mx_event.specs.declared.event.Event.{Event}
use Rattle.mx_folding.specs.Rooms.{Room, is_state, sets_same}
use Rattle.mx_view.specs.Rooms.{Key, room_of}

-- a member event
abbrev pub is_member : Event → Bool
is_member e = is_of member_type e && is_some e.state_key

-- a room whose state no filter narrows
abbrev pub plain : Room Event Key
plain = room_of (record { keeps = λ e. true; keeps_type = λ kind. true; passes = λ e. true; lazy = false }) [] []

-- the member events in the state after these events, in order of position
abbrev pub members_of : List Event → List Event
members_of es = filter (is_of member_type) (filter (is_state plain) (current (sets_same plain) es))

-- the member events in the state of a room at a position
abbrev pub members_at : List Event → ℕ → List Event
members_at es p = members_of (between position_of 0 p es)
