-- A list of rooms by id, and what it is after a list of what was told of rooms by id.
use Rattle.std.specs.Prelude.{◌≡◌, Bool, true, false, cond, List, [], ◌∷◌, ◌++◌, Option, Some, None, ⊤}
use Rattle.std.specs.Option.{option_map}
use Rattle.std.specs.List.{list_any, filter_map}

-- the value under an id
abbrev pub at_id : {I A : Type 0} → (I → I → Bool) → I → List (I × A) → Option A
at_id same i [] = None
at_id same i (p ∷ ps) = cond (same i p.0) (Some p.1) (at_id same i ps)

abbrev pub has_id : {I A : Type 0} → (I → I → Bool) → I → List (I × A) → Bool
has_id same i ps = list_any (λ p. same i p.0) ps

-- each id stands in the list once
abbrev pub AreApart : {I A : Type 0} → (I → I → Bool) → List (I × A) → Type 0
AreApart same [] = ⊤
AreApart same (p ∷ ps) = (has_id same p.0 ps ≡ false) × AreApart same ps

-- the list after what was told: first the rooms that were held, then those that were told of and weren't
abbrev pub all_told : {I D A : Type 0} → (I → I → Bool) → (Option D → Option A → Option A) → List (I × D) → List (I × A) → List (I × A)
all_told same step told had =
    filter_map (λ p. option_map (λ a. (p.0, a)) (step (at_id same p.0 told) (Some p.1))) had
    ++ filter_map (λ p. option_map (λ a. (p.0, a)) (cond (has_id same p.0 had) None (step (Some p.1) None))) told

-- Under each id stands what the step makes of what was told of it and what was held there. Ids that are the same are
-- the same to all others, and of an id that was neither told of nor held the step makes nothing.
abbrev pub AllToldAt : Type 0 → Type 0 → Type 0 → Type 0
AllToldAt I D A = (same : I → I → Bool) → ((i j k : I) → same i j ≡ true → same i k ≡ same j k) → (step : Option D → Option A → Option A)
    → step None None ≡ None
    → (told : List (I × D)) (had : List (I × A)) → AreApart same told → AreApart same had → (i : I)
    → at_id same i (all_told same step told had) ≡ step (at_id same i told) (at_id same i had)
