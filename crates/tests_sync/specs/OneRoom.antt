-- Events that were built one after the other, all of one room.
use Rattle.std.specs.Prelude.{◌≡◌, ◌==◌, ◌&&◌, Bool, true, List, []}
use Rattle.std.specs.List.{AllByRecursion}
use Rattle.mx_window.specs.Windows.{stand_from}
use Rattle.mx_event.specs.Shown.{position_of}
use Rattle.mx_event.specs.Valid.{are_valid}
use Rattle.mx_event.specs.declared.event.Event.{Event}

-- an event of the one room
abbrev pub is_here : Event → Bool
is_here e = (e.room.writer == 0) && (e.room.at == 1)

-- a state has taken just these events; they stand at their positions, and each is valid after those before it
pub record IsBuilt (taken es : List Event) : Type 0 where
  pub all_taken : taken ≡ es
  pub placed : stand_from position_of 1 es ≡ true
  pub valid : are_valid [] es ≡ true
  pub here : AllByRecursion (λ (e : Event). is_here e ≡ true) es
