-- What holds of the fields of each book.
use Rattle.std.specs.Prelude.{◌≡◌, ℕ, ◌<◌, ◌≤◌, List, length, take}
use Rattle.std.specs.List.{AllByRecursion}
use Rattle.mx_core.specs.declared.history.Stored.{Stored}
use Rattle.mx_core.specs.History.{item_at, items_of}
use Rattle.mx_lanes.specs.Order.{by_index, IsReach}

-- the order names stores of the history, the first of them reach the front, the others lie above a gap, and at each position the order has what the history has
pub record IsBook {I : Type 0} (h : List (Stored I)) (order : List ℕ) (passed front : ℕ) : Type 0 where
  pub valid : AllByRecursion (λ i. i < length h) order
  pub reach : IsReach (by_index h order) passed front 1
  pub same : (p : ℕ) → item_at h p ≡ item_at (by_index h order) p

-- the shelf has the items of some first stores of those that reach the front
pub record IsShelved {I : Type 0} (h : List (Stored I)) (order : List ℕ) (passed shelved : ℕ) (shelf : List I) : Type 0 where
  pub within : shelved ≤ passed
  pub items : shelf ≡ items_of (take shelved (by_index h order))
