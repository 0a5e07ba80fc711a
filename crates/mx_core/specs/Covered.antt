-- What a token covers of a history: the items at the positions from 1 to its front, and the front as a number.
use Rattle.std.specs.Prelude.{◌≡◌, ℕ, zero, suc, ◌+◌, max, List, [], ◌∷◌, take, length, Option, Some, None}
use Rattle.mx_core.specs.declared.history.Stored.{Stored}
use Rattle.mx_core.specs.Front.{IsFront}
use Rattle.mx_core.specs.History.{item_at}

-- every position of a history lies below this one
abbrev pub reach : {I : Type 0} → List (Stored I) → ℕ
reach [] = 0
reach (s ∷ h) = max (s.first + length s.items) (reach h)

abbrev pub with_item : {I : Type 0} → Option I → List I → List I
with_item None rest = []
with_item (Some x) rest = x ∷ rest

-- the items that stand from a position on, at most n of them, up to the first gap
abbrev pub covered_from : {I : Type 0} → List (Stored I) → ℕ → ℕ → List I
covered_from h p zero = []
covered_from h p (suc n) = with_item (item_at h p) (covered_from h (p + 1) n)

-- the items at the positions from 1 to the front
unfoldable pub covered : {I : Type 0} → List (Stored I) → List I
covered h = covered_from h 1 (reach h)

abbrev pub front_of : {I : Type 0} → List (Stored I) → ℕ
front_of h = length (covered h)

-- The number of these items is the front.
abbrev pub CoversToFront : Type 0 → Type 0
CoversToFront I = (h : List (Stored I)) → IsFront h (front_of h)

-- What the first stores cover begins what all of them do.
abbrev pub CoversMore : Type 0 → Type 0
CoversMore I = (n : ℕ) (h : List (Stored I)) → covered (take n h) ≡ take (front_of (take n h)) (covered h)
