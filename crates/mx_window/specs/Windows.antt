-- Windows of one room's list: what stands at the positions after a lower and up to an upper one.
-- `at` gives an item's position, so that the words serve events, receipts and account data.
use Rattle.std.specs.Prelude.{ℕ, ◌<◌, ◌+◌, ◌-◌, ◌&&◌, Bool, true, List, [], ◌∷◌, nat_eq, nat_lt, nat_le, ⊤}
use Rattle.std.specs.List.{filter}

-- the positions rise, and each lies after low
abbrev pub Ascends : {E : Type 0} → (E → ℕ) → ℕ → List E → Type 0
Ascends at low [] = ⊤
Ascends at low (e ∷ es) = (low < at e) × Ascends at (at e) es

-- the items stand at consecutive positions, from the first on
abbrev pub stand_from : {E : Type 0} → (E → ℕ) → ℕ → List E → Bool
stand_from at first [] = true
stand_from at first (e ∷ es) = nat_eq (at e) first && stand_from at (first + 1) es

-- the window (low, high]
abbrev pub between : {E : Type 0} → (E → ℕ) → ℕ → ℕ → List E → List E
between at low high es = filter (λ e. nat_lt low (at e) && nat_le (at e) high) es

-- the position before the first item, or the window's end where there is none
abbrev pub before_first : {E : Type 0} → (E → ℕ) → ℕ → List E → ℕ
before_first at end [] = end
before_first at end (e ∷ es) = at e - 1
