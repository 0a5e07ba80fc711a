-- Items that don't carry their position stand in a block as they are.
use Rattle.std.proofs.Common.{◌≡◌, ℕ, ◌+◌, List, [], ◌∷◌, refl, ap}
use Rattle.mx_core.specs.History.{placed_from}

pub placed_same : {I : Type 0} (first at : ℕ) (xs : List I) → placed_from (λ item first at. item) first at xs ≡ xs
placed_same first at [] = refl
placed_same first at (x ∷ xs) = ap (λ l. x ∷ l) (placed_same first (at + 1) xs)
