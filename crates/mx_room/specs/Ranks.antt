-- Ranks of the ids of transactions.
use Rattle.std.specs.Prelude.{ℕ, ◌+◌, ◌-◌, ◌*◌, ◌%◌, ◌^◌, List, drop, length}
use Rattle.std.specs.List.{fold}

-- a number with a digit more in base 256, modulo 2^64
abbrev pub with_digit : ℕ → ℕ → ℕ
with_digit n digit = ((n * 256) % 2 ^ 64 + digit) % 2 ^ 64

-- the number whose digits are the last eight bytes of an id
abbrev pub id_rank : List ℕ → ℕ
id_rank id = fold with_digit 0 (drop (length id - 8) id)
