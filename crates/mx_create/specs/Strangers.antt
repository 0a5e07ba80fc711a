-- Sets of user ids.
use Rattle.std.specs.Prelude.{◌≡◌, ℕ, List, Bool, not, ◌&&◌, ◌||◌, Option, Some, None, if◌then◌else◌, codes}
use Rattle.std.specs.Borrow.{Bor}
use Rattle.std.specs.BTreeSet.{BTreeSet, contains_by}
use Rattle.std.specs.Cmp.Lexicographic.{slice_cmp}
use Rattle.std.specs.List.{list_any}
use Rattle.std.specs.Ordering.{nat_cmp}
use Rattle.std.specs.Str.{bytes_eq}
use Rattle.mx_json.specs.Fields.{text_at}
use Rattle.mx_json.specs.declared.value.Json.{Json}
use Rattle.mx_create.specs.Blocks.{invites, text_or_empty}

abbrev pub Ids : Type 0
Ids = BTreeSet (Bor (List ℕ))

abbrev pub has : Ids → List ℕ → Bool
has ids id = contains_by (λ k. slice_cmp nat_cmp id k.now) ids

abbrev pub is_in : List (List ℕ) → List ℕ → Bool
is_in xs id = list_any (λ x. bytes_eq x id) xs

-- the new set has the ids of the old one and those of the list
abbrev pub Adds : List (List ℕ) → Ids → Ids → Type 0
Adds xs old new = (id : List ℕ) → has new id ≡ (has old id || is_in xs id)

-- the new set has the ids of the old one less those of the list
abbrev pub Removes : List (List ℕ) → Ids → Ids → Type 0
Removes xs old new = (id : List ℕ) → has new id ≡ (has old id && not (is_in xs id))

-- whom an entry of `initial_state` invites
abbrev pub invited_by : Json → Option (List ℕ)
invited_by j = if invites j then Some (text_or_empty (text_at (codes "state_key") j)) else None
