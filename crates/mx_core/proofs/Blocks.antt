-- The block of a writer after a change of one writer's.
use Rattle.std.proofs.Common.{◌≡◌, ◌≢◌, ℕ, ◌<◌, List, Option, None, length, get_or, set, replicate, inl, inr, arith}
use Rattle.std.proofs.lemmas.Bool.{cases_lt}
use Rattle.std.proofs.lemmas.List.{get_or-set_same, get_or-set_other, get_or-replicate, get_or_past, length-replicate}
use Rattle.mx_core.specs.declared.machine.Block.{Block}

pub block_at-start : (writers k : ℕ) → get_or {A = Option Block} (replicate writers None) k None ≡ None
block_at-start writers k = elim (cases_lt k writers) [
  | inl lt ↦ get_or-replicate {A = Option Block} writers k None None lt
  | inr ge ↦ get_or_past {X = Option Block} (replicate writers None) k None (omega (arith, length-replicate {A = Option Block} writers None))
]

pub block_at-here : (held : List (Option Block)) (k : ℕ) (v : Option Block) → k < length held → get_or (set held k v) k None ≡ v
block_at-here held k v lt = get_or-set_same held k v None lt

pub block_at-else : (held : List (Option Block)) (k j : ℕ) (v : Option Block) → j ≢ k → get_or (set held k v) j None ≡ get_or held j None
block_at-else held k j v ne = get_or-set_other held k j v None ne
