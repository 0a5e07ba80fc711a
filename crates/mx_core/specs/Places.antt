-- Items that carry their own positions, and that what a lawful history covers stands in its places.
use Rattle.std.specs.Prelude.{◌≡◌, ℕ, true, List, []}
use Rattle.mx_window.specs.Windows.{stand_from}
use Rattle.mx_core.specs.declared.history.Stored.{Stored}
use Rattle.mx_core.specs.Covered.{covered}
use Rattle.mx_core.specs.History.{Law, keeps_law}

-- the items of a lawful store carry its positions, from the first on
abbrev pub Carries : {I : Type 0} → (I → ℕ) → Law I → Type 0
Carries {I} at law = (k : ℕ) (mine : List (Stored I)) (first : ℕ) (items : List I) → law k mine first items ≡ true → stand_from at first items ≡ true

-- The items up to the front of a lawful history carry the positions from 1 on.
abbrev pub CoveredInPlace : Type 0 → Type 0
CoveredInPlace I = (at : I → ℕ) (law : Law I) (h : List (Stored I)) → Carries at law → keeps_law law [] h ≡ true → stand_from at 1 (covered h) ≡ true
