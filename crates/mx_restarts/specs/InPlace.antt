-- Stores that stand one behind the other.
use Rattle.std.specs.Prelude.{◌≡◌, ℕ, ◌+◌, List, [], ◌∷◌, length, ⊤}
use Rattle.mx_core.specs.declared.history.Stored.{Stored}

-- each store begins where the one before it ends, the first of them at a position
abbrev pub AreInPlace : {I : Type 0} → ℕ → List (Stored I) → Type 0
AreInPlace p [] = ⊤
AreInPlace p (s ∷ h) = (s.first ≡ p) × AreInPlace (p + length s.items) h
