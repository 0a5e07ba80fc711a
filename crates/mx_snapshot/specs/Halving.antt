-- A search among rising positions.
use Rattle.std.specs.Prelude.{ℕ, ◌≡◌, ◌≤◌, ◌*◌, ◌+◌, true, false, List, length, nat_le}
use Rattle.std.specs.List.{AllWithin}

-- those before `low` are at most the position, and those from `high` on later
pub record IsBetween (positions : List ℕ) (last low high : ℕ) : Type 0 where
  pub order : low ≤ high
  pub bound : high ≤ length positions
  pub below : AllWithin (λ p. nat_le p last ≡ true) positions 0 low
  pub above : AllWithin (λ p. nat_le p last ≡ false) positions high (length positions)

-- what 2 to the power of the number of comparisons is at most, where so many lie later
abbrev pub search_cost : ℕ → ℕ
search_cost later = (2 * later + 2) * (2 * later + 1)
