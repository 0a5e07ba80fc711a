-- The stores of a book in the order of their positions.
use Rattle.std.specs.Prelude.{◌≡◌, ℕ, ◌+◌, ◌-◌, ◌<◌, ◌≤◌, ◌^◌, List, [], ◌∷◌, ◌++◌, length, slice_get, take, drop}
use Rattle.std.specs.Option.{option_to_list}
use Rattle.mx_core.specs.declared.history.Stored.{Stored}

-- the stores that a list of indices names
abbrev pub by_index : {I : Type 0} → List (Stored I) → List ℕ → List (Stored I)
by_index h [] = []
by_index h (i ∷ is) = option_to_list (slice_get h i) ++ by_index h is

-- stores without a gap, from the position after the first number to the second
abbrev pub Reaches : {I : Type 0} → ℕ → List (Stored I) → ℕ → Type 0
Reaches base [] front = front ≡ base
Reaches base (s ∷ ss) front = (s.first ≡ base + 1) × (0 < length s.items) × Reaches (base + length s.items) ss front

-- stores that lie apart, in the order of their positions, the first of them above a position
abbrev pub Ascends : {I : Type 0} → ℕ → List (Stored I) → Type 0
Ascends above [] = Unit {0}
Ascends above (s ∷ ss) = (above < s.first) × (0 < length s.items) × (s.first + length s.items ≤ 2 ^ 48) × Ascends (s.first + length s.items - 1) ss

-- the first stores reach the front without a gap, and the others lie above the front and this many positions more
pub record IsReach {I : Type 0} (ss : List (Stored I)) (passed front gap : ℕ) : Type 0 where
  pub within : passed ≤ length ss
  pub reaches : Reaches 0 (take passed ss) front
  pub waits : Ascends (front + gap) (drop passed ss)
  pub below : front < 2 ^ 48
