-- What a writer decides on a draft by its own stores, and what a block must be to follow these.
use Rattle.std.specs.Prelude.{◌≡◌, ℕ, ◌+◌, ◌^◌, ◌<◌, ◌≤◌, true, List, [], ◌∷◌, ◌++◌, Option, Some, Result, Ok, Err, length}
use Rattle.mx_core.specs.declared.history.Stored.{Stored}
use Rattle.mx_core.specs.Limits.{most_drawn}
use Rattle.mx_core.specs.History.{is_stored, Law, IsLane, placed_from}
use Rattle.mx_writers.specs.declared.folds.Made.{Made}
use Rattle.mx_writers.specs.declared.folds.Made.TheVariants as made
use Rattle.mx_writers.specs.declared.folds.Unmade.{Unmade}
use Rattle.mx_writers.specs.declared.folds.Unmade.TheVariants as unmade

-- items to store, a number that is kept, or a fault
pub data Decision (I E : Type 0) : Type 0 where
  Stores : List I → Decision I E
  Keeps : ℕ → Decision I E
  Refuses : E → Decision I E

-- what `prepare` answers, and the pending block then: the decision, or want of memory
abbrev pub Prepares : {I E : Type 0} → Decision I E → Result (Made I) (Unmade E) → Option (List I) → Type 0
Prepares (Stores xs) (Ok (made.Items p)) pending = (p.items ≡ xs) × (pending ≡ Some xs)
Prepares (Keeps n) (Ok (made.Kept m)) pending = m ≡ n
Prepares (Refuses e) (Err (unmade.Fault f)) pending = f ≡ e
Prepares d (Err (unmade.Memory _)) pending = Unit {0}
Prepares d answer pending = ⊥

-- a block of items may begin at a position after the stores of its writer
pub record MayFollow {I : Type 0} (mine : List (Stored I)) (first : ℕ) (xs : List I) : Type 0 where
  pub positive : 1 ≤ first
  pub above : (p : ℕ) → is_stored mine p ≡ true → p < first
  pub last : first + length xs ≤ 2 ^ 48

-- how an item stands in a block: from the block's first position and its own
abbrev pub Placing : Type 0 → Type 0
Placing I = I → ℕ → ℕ → I

abbrev pub store_of : {I : Type 0} → Placing I → ℕ → ℕ → List I → Stored I
store_of place k first xs = record { writer = k; first = first; items = placed_from place first first xs }

abbrev pub with_store : {I : Type 0} → Placing I → ℕ → List (Stored I) → ℕ → List I → List (Stored I)
with_store place k mine first xs = mine ++ store_of place k first xs ∷ []

-- decided items are 1 to 512, and a lawful store after the own stores wherever they may be placed
pub record CanBeStored {I : Type 0} (law : Law I) (place : Placing I) (k : ℕ) (mine : List (Stored I)) (xs : List I) : Type 0 where
  pub some_items : 1 ≤ length xs
  pub few : length xs ≤ most_drawn
  pub lawful : (first : ℕ) → MayFollow mine first xs → law k mine first (placed_from place first first xs) ≡ true

abbrev pub AreLawful : {I D E : Type 0} → Law I → Placing I → (ℕ → List (Stored I) → D → Decision I E) → Type 0
AreLawful {I} {D} law place decides =
    (k : ℕ) (mine : List (Stored I)) (draft : D) (xs : List I) → IsLane law k mine → decides k mine draft ≡ Stores xs → CanBeStored law place k mine xs
