-- The parts of a path, where there are so many.
use Rattle.std.specs.Prelude.{ℕ, List, [], ◌∷◌, Option, Some, None, option_map}
use Rattle.mx_api.specs.declared.asked.Asked.{Asked}
use Rattle.mx_api.specs.declared.asked.Asked.TheVariants as asked
use Rattle.mx_api.specs.declared.refused.Refused.TheVariants as refused

abbrev pub one_part : List (List ℕ) → Option (List ℕ)
one_part (a ∷ []) = Some a
one_part other = None

abbrev pub two_parts : List (List ℕ) → Option (List ℕ × List ℕ)
two_parts (a ∷ b ∷ []) = Some (a, b)
two_parts other = None

-- the room that a path of two parts names
abbrev pub room_of : List (List ℕ) → Option (List ℕ)
room_of parts = option_map (λ p. p.0) (two_parts parts)

abbrev pub three_parts : List (List ℕ) → Option (List ℕ × List ℕ × List ℕ)
three_parts (a ∷ b ∷ c ∷ []) = Some (a, b, c)
three_parts other = None

abbrev pub four_parts : List (List ℕ) → Option (List ℕ × List ℕ × List ℕ × List ℕ)
four_parts (a ∷ b ∷ c ∷ d ∷ []) = Some (a, b, c, d)
four_parts other = None

-- what is asked, where the path has the parts
abbrev pub asked_of : {A : Type 0} → (A → Asked) → Option A → Asked
asked_of f None = asked.Refused refused.BadPath
asked_of f (Some p) = f p
