-- The number that digits spell, read with saturation.
use Rattle.std.proofs.Common.{◌≡◌, ◌<◌, ℕ, ◌+◌, ◌-◌, ◌*◌, ◌^◌, min, drop, List, [], ◌∷◌, sym, ap, ◌∙◌, arith}
use Rattle.mx_api.specs.Queries.{spelled}

-- numbers that are the same up to a bound stay so with more digits
same_within : (most n m : ℕ) (cs : List ℕ) → min n most ≡ min m most → min (spelled n cs) most ≡ min (spelled m cs) most
same_within most n m [] h = h
same_within most n m (c ∷ cs) h = same_within most (n * 10 + (c - 48)) (m * 10 + (c - 48)) cs (omega (arith, h))

-- one more digit, by what each step of the sum gives
pub one_more : (most n digit product value sum : ℕ) (cs whole : List ℕ) (i : ℕ) → most < 2 ^ 64 → drop i whole ≡ digit ∷ cs
    → product ≡ min (n * 10) (2 ^ 64 - 1) → value ≡ digit - 48 → sum ≡ min (product + value) (2 ^ 64 - 1)
    → min (spelled n (drop i whole)) most ≡ min (spelled 0 whole) most
    → min (spelled sum cs) most ≡ min (spelled 0 whole) most
one_more most n digit product value sum cs whole i bound here times is plus h =
    same_within most sum (n * 10 + (digit - 48)) cs (omega (arith, bound, times, is, plus)) ∙ sym (ap (λ l. min (spelled n l) most) here) ∙ h
