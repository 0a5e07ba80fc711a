-- A stream's history: the list of its stores, in the order in which they were made.
use Rattle.std.specs.Prelude.{◌≡◌, ℕ, ◌+◌, ◌-◌, ◌<◌, Bool, true, List, [], ◌∷◌, ◌++◌, Option, None, length, slice_get, nat_le, nat_eq, ◌&&◌, if◌then◌else◌}
use Rattle.std.specs.Option.{option_or, is_some}
use Rattle.mx_core.specs.declared.history.Stored.{Stored}

-- the item of a store at a position: its items stand at consecutive positions from the first
abbrev pub item_of : {I : Type 0} → Stored I → ℕ → Option I
item_of s p = if nat_le s.first p then slice_get s.items (p - s.first) else None

-- the item of a history at a position, if there is one
abbrev pub item_at : {I : Type 0} → List (Stored I) → ℕ → Option I
item_at [] p = None
item_at (s ∷ h) p = option_or (item_of s p) (item_at h p)

-- a position is stored where an item stands at it
abbrev pub is_stored : {I : Type 0} → List (Stored I) → ℕ → Bool
is_stored h p = is_some (item_at h p)

-- the stores of one writer, in their order
abbrev pub own : {I : Type 0} → List (Stored I) → ℕ → List (Stored I)
own [] k = []
own (s ∷ h) k = if nat_eq s.writer k then s ∷ own h k else own h k

-- the items of a list of stores
abbrev pub items_of : {I : Type 0} → List (Stored I) → List I
items_of [] = []
items_of (s ∷ ss) = s.items ++ items_of ss

-- each store is of a writer below a number
abbrev pub AreOf : {I : Type 0} → ℕ → List (Stored I) → Type 0
AreOf writers [] = Unit {0}
AreOf writers (s ∷ h) = (s.writer < writers) × AreOf writers h

-- how many items a history has
abbrev pub stored_count : {I : Type 0} → List (Stored I) → ℕ
stored_count [] = 0
stored_count (s ∷ h) = length s.items + stored_count h

-- the first list is the beginning of the second
abbrev pub Begins : {A : Type 0} → List A → List A → Type 0
Begins {A} xs ys = (rest : List A) × (ys ≡ xs ++ rest)

-- a test of a store: its writer, the stores of that writer before it, its first position, and its items
abbrev pub Law : Type 0 → Type 0
Law I = ℕ → List (Stored I) → ℕ → List I → Bool

-- each store of a list is lawful after those before it, the first of them after `before`
abbrev pub keeps_law : {I : Type 0} → Law I → List (Stored I) → List (Stored I) → Bool
keeps_law law before [] = true
keeps_law law before (s ∷ h) = law s.writer (own before s.writer) s.first s.items && keeps_law law (before ++ s ∷ []) h

-- the stores are all of one writer, each lawful after those before it
pub record IsLane {I : Type 0} (law : Law I) (k : ℕ) (mine : List (Stored I)) : Type 0 where
  pub writer : own mine k ≡ mine
  pub lawful : keeps_law law [] mine ≡ true

-- the items of a block that begins at `first` as they stand, the first of them at `at`; `place` gives an item its position
abbrev pub placed_from : {I : Type 0} → (I → ℕ → ℕ → I) → ℕ → ℕ → List I → List I
placed_from place first at [] = []
placed_from place first at (x ∷ xs) = place x first at ∷ placed_from place first (at + 1) xs
