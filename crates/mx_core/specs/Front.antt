-- The front of a history: the greatest position up to which all is stored.
use Rattle.std.specs.Prelude.{◌≡◌, ℕ, ◌<◌, ◌≤◌, true, List}
use Rattle.mx_core.specs.declared.history.Stored.{Stored}
use Rattle.mx_core.specs.History.{is_stored}

-- each position from 1 to f is stored
abbrev pub AllStored : {I : Type 0} → List (Stored I) → ℕ → Type 0
AllStored h f = (p : ℕ) → 0 < p → p ≤ f → is_stored h p ≡ true

pub record IsFront {I : Type 0} (h : List (Stored I)) (f : ℕ) : Type 0 where
  pub stored : AllStored h f
  pub greatest : (g : ℕ) → AllStored h g → g ≤ f
