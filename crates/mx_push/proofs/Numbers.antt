-- Numbers of digits, and counts beside them.
use Rattle.std.proofs.Common.{ℕ, ◌≡◌, ◌≤◌, ◌<◌, ◌+◌, ◌-◌, ◌*◌, ◌^◌, List, [], ◌∷◌, Option, Some, None, MatchOption, ap, arith}
use Rattle.mx_push.specs.Conditions.{number_from, number_of}
use Rattle.mx_push.specs.Counts.{is_met, test_of}
use Rattle.mx_push.specs.declared.counts.Bound.{Bound}
use Rattle.mx_push.specs.declared.counts.Bound.TheVariants as bounds

grows : (ds : List ℕ) (n : ℕ) → n ≤ number_from n ds
grows [] n = omega arith
grows (d ∷ ds) n = omega (arith, grows ds (n * 10 + (d - 48)))

-- the digits that follow make a number no less
pub too_large : (n d : ℕ) (ds whole : List ℕ) → number_from n (d ∷ ds) ≡ number_of whole → 2 ^ 64 ≤ n * 10 + (d - 48) → 2 ^ 64 ≤ number_of whole
too_large n d ds whole is large = omega (arith, grows ds (n * 10 + (d - 48)), is, large)

-- a count that is below a number stands to it as it stands to one that is too large
pub met : (bound : Bound) (count : ℕ) (number : Option ℕ) (n : ℕ) → count < 2 ^ 64 → MatchOption number (2 ^ 64 ≤ n) (λ m. m ≡ n) → is_met bound count number ≡ test_of bound count n
met bound count (Some m) n small is = ap (test_of bound count) is
met bounds.Equal count None n small is = grind (arith, small, is)
met bounds.Below count None n small is = grind (arith, small, is)
met bounds.Above count None n small is = grind (arith, small, is)
met bounds.AtMost count None n small is = grind (arith, small, is)
met bounds.AtLeast count None n small is = grind (arith, small, is)
