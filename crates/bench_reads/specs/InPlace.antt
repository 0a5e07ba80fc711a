-- Events that stand at their own positions, and a snapshot that knows the first of them.
use Rattle.std.specs.Prelude.{◌≡◌, ℕ, Bool, List, []}
use Rattle.mx_core.specs.declared.history.Stored.{Stored}
use Rattle.mx_core.specs.History.{Begins}
use Rattle.mx_window.specs.Windows.{stand_from}
use Rattle.mx_event.specs.Shown.{position_of}
use Rattle.mx_event.specs.declared.event.Event.{Event}
use Rattle.mx_snapshot.specs.declared.snapshot.Snapshot.{Snapshot}

-- the events of a store stand at its positions
abbrev pub in_place : ℕ → List (Stored Event) → ℕ → List Event → Bool
in_place writer before first items = stand_from position_of first items

-- the snapshot's events are the first ones of a list, and it has no receipts and no account data
pub record Knows (all : List Event) (s : Snapshot) : Type 0 where
  pub events : Begins s.events all
  pub receipts : s.receipts ≡ []
  pub accounts : s.accounts ≡ []
