-- The items up to the front are those that a history covers.
use Rattle.std.proofs.Common.{◌≡◌, ℕ, suc, ◌+◌, ap, ◌∙◌, arith}
use Rattle.mx_core.specs.History.{item_at}
use Rattle.mx_core.proofs.Covering.{same_covered}
use Rattle.mx_lanes.specs.Laws.{UpToFront}

pub up_to_front : {I : Type 0} → UpToFront I
up_to_front h front taken is parts = same_covered h front taken.items is parts.front
    (λ i less. parts.items (suc i) (omega arith) (omega (arith, less, parts.front)) ∙ ap (item_at h) (next i))
  where
    next : (i : ℕ) → suc i ≡ 1 + i
    next i = omega arith
