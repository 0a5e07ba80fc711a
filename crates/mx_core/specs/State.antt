-- The states of a stream's machine.
use Rattle.std.specs.Prelude.{ℕ, ◌+◌, ◌-◌, List, [], ◌∷◌, ◌++◌, Option, None, Some, slice_index_or, slice_set, min, replicate}
use Rattle.mx_core.specs.declared.history.Stored.{Stored}
use Rattle.mx_core.specs.declared.machine.Block.{Block}

pub record State (I : Type 0) : Type 0 where
  pub limit : ℕ
  -- the number of positions drawn
  pub next : ℕ
  -- the block that each writer holds
  pub held : List (Option Block)
  pub history : List (Stored I)

abbrev pub start : {I : Type 0} → ℕ → ℕ → State I
start writers limit = record { limit = limit; next = 0; held = replicate writers None; history = [] }

-- the block of a writer
abbrev pub block_of : {I : Type 0} → State I → ℕ → Option Block
block_of s writer = slice_index_or s.held writer None

-- after a draw
abbrev pub drawn : {I : Type 0} → State I → ℕ → ℕ → State I
drawn s writer count = record s { next = s.next + count; held = slice_set s.held writer (Some (record { first = s.next + 1; count = count })) }

-- after a store
abbrev pub stored : {I : Type 0} → State I → ℕ → ℕ → List I → State I
stored s writer first items = record s {
  held = slice_set s.held writer None;
  history = s.history ++ record { writer = writer; first = first; items = items } ∷ [];
}

-- how many positions a writer holds, and how many all writers hold
abbrev pub count_of : Option Block → ℕ
count_of None = 0
count_of (Some b) = b.count

abbrev pub held_count : List (Option Block) → ℕ
held_count [] = 0
held_count (o ∷ held) = count_of o + held_count held

-- the greatest position, at most n, before each block that is held
abbrev pub before_block : ℕ → Option Block → ℕ
before_block n None = n
before_block n (Some b) = min n (b.first - 1)

abbrev pub free_to : ℕ → List (Option Block) → ℕ
free_to n [] = n
free_to n (o ∷ held) = free_to (before_block n o) held
