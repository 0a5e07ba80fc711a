-- The items of a history up to a front.
use Rattle.std.specs.Prelude.{◌≡◌, ℕ, zero, suc, ◌<◌, ◌≤◌, List, Option, None, length, slice_get}
use Rattle.mx_core.specs.declared.history.Stored.{Stored}
use Rattle.mx_core.specs.History.{item_at}

pub record Taken (I : Type 0) : Type 0 where
  -- the item at position p is that at the index p - 1
  pub items : List I
  pub stores : ℕ

-- the item at a position from 1 on
abbrev pub part_at : {I : Type 0} → Taken I → ℕ → Option I
part_at parts zero = None
part_at parts (suc p) = slice_get parts.items p

-- the items at the positions from 1 to a front, and the number of stores
pub record IsUpTo {I : Type 0} (h : List (Stored I)) (last : ℕ) (parts : Taken I) : Type 0 where
  pub front : length parts.items ≡ last
  pub items : (p : ℕ) → 0 < p → p ≤ last → part_at parts p ≡ item_at h p
  pub stores : parts.stores ≡ length h
