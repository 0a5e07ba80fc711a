-- Globs over the characters of a text (Client-Server API, Push rules, Conditions).
use Rattle.std.specs.Prelude.{ℕ, Bool, true, false, not, ◌&&◌, ◌||◌, List, [], ◌∷◌, Option, Some, None, is_none, nat_eq, nat_le, if◌then◌else◌}
use Rattle.std.specs.Char.{to_ascii_lowercase}
use Rattle.std.specs.List.{list_any}
use Rattle.std.specs.Str.{chars}
use Rattle.mx_glob.specs.declared.edge.Edge.{Edge}
use Rattle.mx_glob.specs.declared.edge.Edge.TheVariants.{Any, TextStart, TextEnd, Word}
use Rattle.mx_glob.specs.declared.wildcards.Same.{Same}
use Rattle.mx_glob.specs.declared.wildcards.Same.TheVariants.{Exact, Folded}

-- a character of a pattern, 63 is `?`, and one of a text
abbrev pub same_char : Same → ℕ → ℕ → Bool
same_char Exact p c = nat_eq p c
same_char Folded p c = nat_eq p 63 || nat_eq (to_ascii_lowercase p) (to_ascii_lowercase c)

-- a place of a text: the character before it, if there is one, and those behind it
pub record Spot : Type 0 where
  pub before : Option ℕ
  pub behind : List ℕ

abbrev pub place_of : Option ℕ → List ℕ → Spot
place_of before text = record { before = before; behind = chars text }

-- a place and those behind it
abbrev pub spots : Option ℕ → List ℕ → List Spot
spots b [] = record { before = b; behind = [] } ∷ []
spots b (c ∷ cs) = record { before = b; behind = c ∷ cs } ∷ spots (Some c) cs

abbrev pub onward : Spot → List Spot
onward s = spots s.before s.behind

abbrev pub next_char : List ℕ → Option ℕ
next_char [] = None
next_char (c ∷ cs) = Some c

-- ASCII letters, digits and `_`
abbrev pub is_word : ℕ → Bool
is_word c = (nat_le 48 c && nat_le c 57) || ((nat_le 65 c && nat_le c 90) || ((nat_le 97 c && nat_le c 122) || nat_eq c 95))

abbrev pub is_edge : Option ℕ → Bool
is_edge None = true
is_edge (Some c) = not (is_word c)

-- whether a stretch may begin or end at a place
abbrev pub accepts : Edge → Spot → Bool
accepts Any s = true
accepts TextStart s = is_none s.before
accepts TextEnd s = is_none (next_char s.behind)
accepts Word s = is_edge s.before || is_edge (next_char s.behind)

-- the place behind the next character, if one of the pattern fits it
abbrev pub step : Same → ℕ → List ℕ → Option Spot
step same p [] = None
step same p (c ∷ cs) = if same_char same p c then Some (record { before = Some c; behind = cs }) else None

abbrev pub holds : (Spot → Bool) → Option Spot → Bool
holds test None = false
holds test (Some s) = test s

-- the pattern fits what stands between a place and one where it may end; its `*`, which is 42, fits any sequence of characters
abbrev pub fits : Same → Edge → List ℕ → Spot → Bool
fits same end [] s = accepts end s
fits same end (p ∷ ps) s = if nat_eq p 42 then list_any (fits same end ps) (onward s) else holds (fits same end ps) (step same p s.behind)

-- it fits a stretch that begins at this place or behind it
abbrev pub spans : Same → Edge → Edge → List ℕ → Spot → Bool
spans same start end ps s = list_any (λ t. accepts start t && fits same end ps t) (onward s)

-- the pattern fits the whole text
abbrev pub glob : Same → List ℕ → List ℕ → Bool
glob same pattern text = spans same TextStart TextEnd (chars pattern) (place_of None text)

-- the pattern fits a stretch between word boundaries
abbrev pub glob_in_words : Same → List ℕ → List ℕ → Bool
glob_in_words same pattern text = spans same Word Word (chars pattern) (place_of None text)
