-- The parts of a path on a user's data, and whose data they are.
use Rattle.std.specs.Prelude.{ℕ, List, [], ◌∷◌, Option, Some, None, if◌then◌else◌}
use Rattle.std.specs.Str.{bytes_eq}
use Rattle.mx_ask.specs.declared.ask.Who.{Who}
use Rattle.mx_api.specs.declared.asked.Asked.{Asked}
use Rattle.mx_api.specs.declared.asked.Asked.TheVariants as asked
use Rattle.mx_api.specs.declared.refused.Refused.TheVariants as refused

abbrev pub five_parts : List (List ℕ) → Option (List ℕ × List ℕ × List ℕ × List ℕ × List ℕ)
five_parts (a ∷ b ∷ c ∷ d ∷ e ∷ []) = Some (a, b, c, d, e)
five_parts other = None

-- what is asked of a user's data, if the user is the caller
abbrev pub of_caller : Who → List ℕ → Asked → Asked
of_caller who user what = if bytes_eq who.user user then what else asked.Refused refused.NotCaller
