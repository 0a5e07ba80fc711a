-- Runs of a machine, and the front law over every run.
use Rattle.std.specs.Prelude.{◌≡◌, ℕ, ◌<◌, ◌≤◌, List, [], ◌∷◌, ◌++◌, Some}
use Rattle.mx_core.specs.declared.machine.Block.{Block}
use Rattle.mx_core.specs.declared.machine.Step.{Step}
use Rattle.mx_core.specs.Front.{AllStored, IsFront}
use Rattle.mx_core.specs.History.{item_at}
use Rattle.mx_core.specs.Moves.{Takes}
use Rattle.mx_core.specs.State.{State, start, block_of}

-- a list of steps leads from one state to another
abbrev pub Runs : {I : Type 0} → State I → List (Step I) → State I → Type 0
Runs s [] t = s ≡ t
Runs {I} s (step ∷ steps) t = (u : State I) × Takes s step u × Runs u steps t

-- some run from the start leads to the state
pub record IsReached {I : Type 0} (s : State I) : Type 0 where
  pub writers : ℕ
  pub limit : ℕ
  pub steps : List (Step I)
  pub run : Runs (start writers limit) steps s

-- whatever the run: each position up to the front is stored, and no held block meets it
abbrev pub CoversNoUnfinishedWrite : Type 0 → Type 0
CoversNoUnfinishedWrite I = (writers limit : ℕ) (steps : List (Step I)) (s : State I) (front : ℕ)
    → Runs (start writers limit) steps s → IsFront s.history front
    → AllStored s.history front × ((writer : ℕ) (b : Block) → block_of s writer ≡ Some b → front < b.first)

-- for two runs of which one begins with the other: the front of the first is at most that of the second, and the items up to it are equal
abbrev pub NeverFalls : Type 0 → Type 0
NeverFalls I = (writers limit : ℕ) (steps more : List (Step I)) (s t : State I) (front later : ℕ)
    → Runs (start writers limit) steps s → Runs (start writers limit) (steps ++ more) t
    → IsFront s.history front → IsFront t.history later
    → (front ≤ later) × ((p : ℕ) → p ≤ front → item_at t.history p ≡ item_at s.history p)
