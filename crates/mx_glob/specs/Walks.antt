-- How a pattern is put into a text, piece by piece: a piece is what stands before the next `*`.
use Rattle.std.specs.Prelude.{ℕ, List, [], ◌∷◌, Option, Some, None, option_and_then, nat_eq, if◌then◌else◌}
use Rattle.std.specs.Option.{option_or}
use Rattle.mx_glob.specs.Globs.{Spot, step, accepts}
use Rattle.mx_glob.specs.declared.edge.Edge.{Edge}
use Rattle.mx_glob.specs.declared.wildcards.Same.{Same}

abbrev pub after_star : List ℕ → Option (List ℕ)
after_star [] = None
after_star (p ∷ ps) = if nat_eq p 42 then Some ps else after_star ps

-- the place behind the characters that the piece fits
abbrev pub past : Same → List ℕ → Spot → Option Spot
past same [] s = Some s
past same (p ∷ ps) s = if nat_eq p 42 then Some s else option_and_then (past same ps) (step same p s.behind)

abbrev pub ending : Edge → Option Spot → Option Spot
ending end None = None
ending end (Some s) = if accepts end s then Some s else None

abbrev pub tried : Same → Edge → Edge → List ℕ → Spot → Option Spot
tried same start end ps s = if accepts start s then ending end (past same ps s) else None

-- the first stretch at or behind a place
abbrev pub found_in : Same → Edge → Edge → List ℕ → Option ℕ → List ℕ → Option Spot
found_in same start end ps b [] = tried same start end ps (record { before = b; behind = [] })
found_in same start end ps b (c ∷ cs) = option_or (tried same start end ps (record { before = b; behind = c ∷ cs })) (found_in same start end ps (Some c) cs)

abbrev pub found : Same → Edge → Edge → List ℕ → Spot → Option Spot
found same start end ps s = found_in same start end ps s.before s.behind
