-- Space that is made before it is needed.
use Rattle.std.specs.Prelude.{ℕ, ◌+◌, ◌≤◌, List, [], ◌∷◌}

abbrev pub total : List ℕ → ℕ
total [] = 0
total (n ∷ ns) = n + total ns

-- what is spare in all lanes fits beside what is used
pub record HasSpace (spare : List ℕ) (used capacity : ℕ) : Type 0 where
  pub fits : used + total spare ≤ capacity
