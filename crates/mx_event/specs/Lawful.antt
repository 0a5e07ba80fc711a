-- Which stores of events are lawful (`Placed` of mx_core): the events of a writer's rooms, each allowed after those before it.
use Rattle.std.specs.Prelude.{ℕ, ◌+◌, ◌==◌, ◌&&◌, ◌||◌, not, Bool, true, List, [], ◌∷◌, ◌++◌, is_none, if◌then◌else◌}
use Rattle.std.specs.List.{filter, list_any}
use Rattle.mx_core.specs.History.{items_of}
use Rattle.mx_core.specs.declared.history.Stored.{Stored}
use Rattle.mx_ids.specs.declared.room_id.RoomId.{RoomId}
use Rattle.mx_event.specs.Kinds.{create_type, is_of, is_redaction}
use Rattle.mx_event.specs.Shown.{names}
use Rattle.mx_event.specs.Denied.{denied}
use Rattle.mx_event.specs.declared.event.Event.{Event}

abbrev pub same_room : RoomId → RoomId → Bool
same_room r s = (r.writer == s.writer) && (r.at == s.at)

-- the events of one room
abbrev pub of_room : RoomId → List Event → List Event
of_room room es = filter (λ e. same_room e.room room) es

-- a redaction names one of these events; another event needn't
abbrev pub has_target : Event → List Event → Bool
has_target e es = not (is_redaction e) || list_any (λ v. names e v.id.at) es

-- an event that a writer may store at a position, after these events of its own
abbrev pub is_lawful : ℕ → List Event → ℕ → Event → Bool
is_lawful writer before at e =
    (e.id.at == at)
    && ((e.room.writer == writer)
    && ((not (is_of create_type e) || (e.room.at == at))
    && (is_none (denied e (of_room e.room before)) && has_target e (of_room e.room before))))

-- events that a writer may store from a position on, each after those before it
abbrev pub are_lawful : ℕ → List Event → ℕ → List Event → Bool
are_lawful writer before at [] = true
are_lawful writer before at (e ∷ es) = is_lawful writer before at e && are_lawful writer (before ++ e ∷ []) (at + 1) es

abbrev pub lawful_store : ℕ → List (Stored Event) → ℕ → List Event → Bool
lawful_store writer before first items = are_lawful writer (items_of before) first items

-- the event as it stands at a position, in a block that begins at `first`; a room that is created by its block has position 0 before
abbrev pub placed_event : Event → ℕ → ℕ → Event
placed_event e first at = record e {
  id = record { at = at };
  room = if e.room.at == 0 then record { writer = e.room.writer; at = first } else e.room;
}
