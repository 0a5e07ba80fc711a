-- Segments of a list, each of 1,024 items.
use Rattle.std.specs.Prelude.{Bool, true, ◌&&◌, ◌++◌, List, [], ◌∷◌, length, nat_eq}

abbrev pub joined : {I : Type 0} → List (List I) → List I
joined [] = []
joined (s ∷ ss) = s ++ joined ss

abbrev pub all_full : {I : Type 0} → List (List I) → Bool
all_full [] = true
all_full (s ∷ ss) = nat_eq (length s) 1024 && all_full ss
