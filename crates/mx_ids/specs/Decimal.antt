-- A number as decimal text, and how it is read from the front of a text.
use Rattle.std.specs.Prelude.{ℕ, ◌+◌, ◌-◌, ◌*◌, min, Bool, ◌&&◌, nat_le, ◌==◌, if◌then◌else◌, List, [], ◌∷◌, map, Option, Some, None}
use Rattle.std.specs.Int.Digits.{digits_of}

-- the decimal text of a number, without leading zeros
unfoldable pub numeral : ℕ → List ℕ
numeral n = if n == 0 then 48 ∷ [] else map (λ d. 48 + d) (digits_of 10 n)

abbrev pub is_digit : ℕ → Bool
is_digit c = nat_le 48 c && nat_le c 57

-- the number that the digits at the front add to `n`, at most `most`, and what follows them
abbrev pub digits_behind : ℕ → ℕ → List ℕ → ℕ × List ℕ
digits_behind most n [] = (n, [])
digits_behind most n (c ∷ cs) = if is_digit c then digits_behind most (min (min (n * 10) most + (c - 48)) most) cs else (n, c ∷ cs)

-- the number without leading zeros at the front, at most `most`, and what follows it
abbrev pub number_at : ℕ → List ℕ → Option (ℕ × List ℕ)
number_at most [] = None
number_at most (c ∷ cs) = if c == 48 then Some (0, cs) else if is_digit c then Some (digits_behind most 0 (c ∷ cs)) else None
