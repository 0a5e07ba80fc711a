-- How the code tests a count.
use Rattle.std.specs.Prelude.{ℕ, Bool, true, false, Option, Some, None, nat_eq, nat_le, nat_lt}
use Rattle.mx_push.specs.Conditions.{is_above, is_at_least}
use Rattle.mx_push.specs.declared.counts.Bound.{Bound}
use Rattle.mx_push.specs.declared.counts.Bound.TheVariants as bounds

abbrev pub test_of : Bound → ℕ → ℕ → Bool
test_of bounds.Equal n m = nat_eq n m
test_of bounds.Below n m = nat_lt n m
test_of bounds.Above n m = is_above n m
test_of bounds.AtMost n m = nat_le n m
test_of bounds.AtLeast n m = is_at_least n m

-- a number that no u64 holds is above each count
abbrev pub is_open : Bound → Bool
is_open bounds.Equal = false
is_open bounds.Below = true
is_open bounds.Above = false
is_open bounds.AtMost = true
is_open bounds.AtLeast = false

abbrev pub is_met : Bound → ℕ → Option ℕ → Bool
is_met bound n None = is_open bound
is_met bound n (Some m) = test_of bound n m
