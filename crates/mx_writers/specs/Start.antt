-- What the start of the writers asks of its pens and its folds.
use Rattle.std.specs.Prelude.{◌≡◌, ℕ, List, [], Option, Some, None, length, slice_get}
use mathlib.Core.Option as maybe
use lib.ListN.{get_elem?}
use Rattle.atomic_table.specs.Seated.{TableId}
use Rattle.mx_core.specs.declared.history.Stored.{Stored}
use Rattle.mx_core.specs.declared.placed.Placed.{Ghosts}
use Rattle.mx_front.specs.declared.handles.Pen.{Pen}
use Rattle.mx_front.specs.Shown.{known, number, place_of_pen, own_of}
use Rattle.mx_writers.specs.Locks.{Fits}

module _ {I : Type 0} {g : Ghosts I} where
  -- the pen of a writer, without a store or a block
  pub record IsFreshPen (at : TableId) (k : ℕ) (p : Pen I g) : Type 0 where
    pub stream : place_of_pen p ≡ at
    pub writer : number p ≡ k
    pub stores : own_of p ≡ []
    pub block : (known p).block ≡ None

  -- the pens of the writers below a number, in their order
  pub record AreFreshPens (at : TableId) (n : ℕ) (pens : List (Pen I g)) : Type 0 where
    pub count : length pens ≡ n
    pub each : (k : ℕ) (p : Pen I g) → slice_get pens k ≡ Some p → IsFreshPen at k p

-- the values of the writers below a number, in their order, each the fold of the empty list
pub record AreFreshFolds {F I : Type 0} (writer : F → ℕ) (own : F → List (Stored I)) (n : ℕ) (folds : List F) : Type 0 where
  pub count : length folds ≡ n
  pub writers : (k : ℕ) (f : F) → slice_get folds k ≡ Some f → writer f ≡ k
  pub stores : (k : ℕ) (f : F) → slice_get folds k ≡ Some f → own f ≡ []

-- in each slot is the shard of its writer, where `P k at x` says that x is that of the writer k of the stream
pub record AreShards {T : Type 0} (P : ℕ → TableId → T → Type 0) (at : TableId) (n : ℕ) (slots : List (Option T)) : Type 0 where
  pub count : length slots ≡ n
  pub each : (k : ℕ) (o : Option T) → get_elem? slots k ≡ maybe.some o → Fits (P k at) (maybe.some o)
