-- A text is a number where a number is read of it.
use Rattle.std.proofs.Common.{◌≡◌, if◌then◌else◌, ℕ, Bool, true, false, List, Some, None, refl}
use Rattle.std.specs.Prelude.{min}
use Rattle.std.specs.Option.{is_some}
use Rattle.mx_api.specs.Queries.{is_number, number_within, spelled}

some_if : (b : Bool) (n : ℕ) → is_some {T = ℕ} (if b then Some n else None) ≡ b
some_if true n = refl
some_if false n = refl

pub some_number : (text : List ℕ) → is_some (number_within 0 text) ≡ is_number text
unfolding number_within
some_number text = some_if (is_number text) (min (spelled 0 text) 0)
