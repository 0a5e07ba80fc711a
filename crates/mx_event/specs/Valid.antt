-- Valid lists of a room's events, and that lawful stores make them.
use Rattle.std.specs.Prelude.{◌≡◌, ℕ, ◌&&◌, Bool, true, List, [], ◌∷◌, ◌++◌, is_none}
use Rattle.mx_core.specs.Covered.{covered}
use Rattle.mx_core.specs.History.{keeps_law}
use Rattle.mx_core.specs.Orderly.{IsOrderly}
use Rattle.mx_core.specs.declared.history.Stored.{Stored}
use Rattle.mx_ids.specs.declared.room_id.RoomId.{RoomId}
use Rattle.mx_window.specs.Windows.{Ascends, stand_from}
use Rattle.mx_event.specs.Denied.{denied}
use Rattle.mx_event.specs.Lawful.{has_target, of_room, are_lawful, lawful_store}
use Rattle.mx_event.specs.Shown.{position_of}
use Rattle.mx_event.specs.declared.event.Event.{Event}

-- no event is denied after those before it, and each redaction names one of those
abbrev pub are_valid : List Event → List Event → Bool
are_valid before [] = true
are_valid before (e ∷ es) = (is_none (denied e before) && has_target e before) && are_valid (before ++ e ∷ []) es

-- a room's list is valid: its positions rise, and its events are valid one after the other
pub record IsValid (es : List Event) : Type 0 where
  pub ascends : Ascends position_of 0 es
  pub valid : are_valid [] es ≡ true

-- The events of a room among a writer's lawful events are valid after those before.
abbrev pub LawfulIsValid : Type 0
LawfulIsValid = (writer at : ℕ) (before es : List Event) (room : RoomId) → are_lawful writer before at es ≡ true
    → are_valid (of_room room before) (of_room room es) ≡ true

-- In an orderly history whose stores are each lawful after those of their writer: the items up to the front stand at their
-- positions, and each room's list among them is valid. Lawful stores alone don't give it, since a writer could store a
-- room's first block at 2 and then a message of that room at 1.
abbrev pub RoomsAreValid : Type 0
RoomsAreValid = (h : List (Stored Event)) → IsOrderly h → keeps_law lawful_store [] h ≡ true
    → (stand_from position_of 1 (covered h) ≡ true) × ((room : RoomId) → IsValid (of_room room (covered h)))
