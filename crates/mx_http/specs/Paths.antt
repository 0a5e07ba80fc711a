-- The parts of a path, decoded (RFC 3986, section 2.1).
use Rattle.std.specs.Prelude.{ℕ, List, [], ◌∷◌, Option, Some, None, if◌then◌else◌}
use Rattle.std.specs.Str.{is_utf8}
use Rattle.percent_encoding.specs.Percent.{percent_decode}

-- a part, decoded, if it then is UTF-8
abbrev pub decoded_part : List ℕ → Option (List ℕ)
decoded_part part = if is_utf8 (percent_decode part) then Some (percent_decode part) else None

abbrev pub with_part : Option (List ℕ) → Option (List (List ℕ)) → Option (List (List ℕ))
with_part None rest = None
with_part (Some part) None = None
with_part (Some part) (Some parts) = Some (part ∷ parts)

-- all parts, decoded, if each then is UTF-8
abbrev pub decoded_parts : List (List ℕ) → Option (List (List ℕ))
decoded_parts [] = Some []
decoded_parts (part ∷ parts) = with_part (decoded_part part) (decoded_parts parts)
