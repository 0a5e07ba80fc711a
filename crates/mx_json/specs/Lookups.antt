-- Dotted paths of keys (Client-Server API, Push rules, Dot-separated property paths), and what stands at a path.
use Rattle.std.specs.Prelude.{◌≡◌, ℕ, Bool, true, false, ◌&&◌, ◌||◌, List, [], ◌∷◌, ◌++◌, map, Option, Some, None, option_and_then, nat_eq, if◌then◌else◌, encode_utf8}
use Rattle.std.specs.Str.{chars, encode_utf8_all}
use Rattle.mx_json.specs.Fields.{field}
use Rattle.mx_json.specs.declared.paths.Mark.{Mark}
use Rattle.mx_json.specs.declared.paths.Mark.TheVariants.{Dot, Of}
use Rattle.mx_json.specs.declared.value.Json.{Json}

-- what stands at keys, one below the other: each is a key of an object
abbrev pub lookup : List (List ℕ) → Json → Option Json
lookup [] j = Some j
lookup (key ∷ keys) j = option_and_then (lookup keys) (field key j)

-- the marks of a path, by its characters: a dot (46), or a character of a part. A backslash (92) before a dot or a backslash
-- makes that a character of its part; another backslash stands for itself
abbrev mutual
  pub marks : List ℕ → List Mark
  marks [] = []
  marks (c ∷ cs) = if nat_eq c 46 then Dot ∷ marks cs else (if nat_eq c 92 then behind_slash cs else Of c ∷ marks cs)

  pub behind_slash : List ℕ → List Mark
  behind_slash [] = Of 92 ∷ []
  behind_slash (d ∷ ds) = if nat_eq d 46 || nat_eq d 92 then Of d ∷ marks ds else Of 92 ∷ Of d ∷ marks ds

-- the characters before the first dot, and the parts behind it
abbrev pub first_part : List Mark → List ℕ
first_part [] = []
first_part (Dot ∷ ms) = []
first_part (Of c ∷ ms) = c ∷ first_part ms

abbrev pub later_parts : List Mark → List (List ℕ)
later_parts [] = []
later_parts (Dot ∷ ms) = first_part ms ∷ later_parts ms
later_parts (Of c ∷ ms) = later_parts ms

abbrev pub parts_of : List Mark → List (List ℕ)
parts_of ms = encode_utf8_all (first_part ms) ∷ map encode_utf8_all (later_parts ms)

-- the parts of a dotted path
unfoldable pub path_parts : List ℕ → List (List ℕ)
path_parts path = parts_of (marks (chars path))

-- How the code goes through a path.

abbrev pub behind_dot : List Mark → Option (List Mark)
behind_dot [] = None
behind_dot (Dot ∷ ms) = Some ms
behind_dot (Of c ∷ ms) = behind_dot ms

-- the first part has these characters
abbrev pub is_named : List Mark → List ℕ → Bool
is_named [] [] = true
is_named [] (k ∷ ks) = false
is_named (Dot ∷ ms) [] = true
is_named (Dot ∷ ms) (k ∷ ks) = false
is_named (Of c ∷ ms) [] = false
is_named (Of c ∷ ms) (k ∷ ks) = nat_eq k c && is_named ms ks

-- a character goes to the end of the part in hand; a dot ends it
abbrev pub Takes : Mark → List ℕ → List (List ℕ) → List ℕ → List (List ℕ) → Type 0
Takes Dot part parts part' parts' = (part' ≡ []) × (parts' ≡ parts ++ part ∷ [])
Takes (Of c) part parts part' parts' = (part' ≡ part ++ encode_utf8 c) × (parts' ≡ parts)
