-- What a reader of tokens answers.
use Rattle.std.specs.Prelude.{ℕ, Bool, nat_lt, if◌then◌else◌, Option, Some, None, Result, Ok, Err}
use Rattle.mx_ids.specs.declared.sync_token.TokenFault.{TokenFault}
use Rattle.mx_ids.specs.declared.sync_token.TokenFault.TheVariants.{Shape, TooLarge, Order}

-- the answer to what a text spells: its numbers are in range, and the position `low` stands at or before the front `high`
unfoldable pub answered : {T : Type 0} → (T → Bool) → (T → ℕ) → (T → ℕ) → Option T → Result T TokenFault
answered in_range low high None = Err Shape
answered in_range low high (Some t) = if in_range t then (if nat_lt (high t) (low t) then Err Order else Ok t) else Err TooLarge
