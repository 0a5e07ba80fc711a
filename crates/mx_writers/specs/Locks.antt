-- The rule of the table of the shards' turns: for each writer a queue of two words, and a slot with its shard.
use Rattle.std.specs.Prelude.{◌≡◌, ℕ, ◌≤◌, List, [], ◌∷◌, map, Option, Some, None}
use mathlib.Core.Option as maybe
use lib.ListN.{get_elem?}
use Rattle.atomic_table.specs.Seated.{TableId}
use Rattle.atomic_table.specs.Table as table
use Rattle.mx_front.specs.declared.view.Turn.{Turn}
use Rattle.mx_front.specs.declared.view.Turn.TheVariants.{Idle, Waits, Has}
use Rattle.mx_front.specs.Queue.{Line, IsHome, InLine}
use Rattle.mx_writers.specs.declared.view.Ask.{Ask}

abbrev pub words_of : {T : Type 0} → List (Line T) → List ℕ
words_of [] = []
words_of (l ∷ ls) = l.ticket ∷ l.serving ∷ words_of ls

abbrev pub slots_of : {T : Type 0} → List (Line T) → List (maybe.Option (Option T))
slots_of ls = map (λ l. l.slot) ls

-- what is in a slot at home is the shard of its writer
abbrev pub Fits : {T : Type 0} → (T → Type 0) → maybe.Option (Option T) → Type 0
Fits P maybe.none = Unit {0}
Fits P (maybe.some None) = ⊥
Fits P (maybe.some (Some x)) = P x

pub record IsGood {T : Type 0} (P : T → Type 0) (l : Line T) : Type 0 where
  pub ordered : l.serving ≤ l.ticket
  -- where nobody waits the shard is at home
  pub ready : l.serving ≡ l.ticket → IsHome l.slot
  pub fits : Fits P l.slot

-- the seat j stands so in the queue of the writer k
pub record InQueue {T : Type 0} (ls : List (Line T)) (j k : ℕ) (turn : Turn) : Type 0 where
  pub line : Line T
  pub at : get_elem? ls k ≡ maybe.some line
  pub is : InLine line j turn

abbrev pub Asks : {T : Type 0} → List (Line T) → ℕ → ℕ → Turn → Type 0
Asks ls j k Idle = Unit {0}
Asks ls j k (Waits t) = InQueue ls j k (Waits t)
Asks ls j k (Has t) = InQueue ls j k (Has t)

-- what a seat knows: the stream, and its place in the queue of its writer
pub record Knows {T : Type 0} (at : TableId) (ls : List (Line T)) (j : ℕ) (v : Ask) : Type 0 where
  pub stream : v.at ≡ at
  pub asks : Asks ls j v.writer v.turn

abbrev pub AreGood : {T : Type 0} → (ℕ → TableId → T → Type 0) → TableId → List (Line T) → Type 0
AreGood {T} P at ls = (k : ℕ) (l : Line T) → get_elem? ls k ≡ maybe.some l → IsGood (P k at) l

-- the rule, where `P k at x` says that x is the shard of the writer k of the stream
pub record Locked {T : Type 0} (P : ℕ → TableId → T → Type 0) (at : TableId) (s : table.State (Option T) Ask) : Type 0 where
  pub lines : List (Line T)
  pub words : s.words ≡ words_of lines
  pub homes : s.homes ≡ slots_of lines
  pub good : AreGood P at lines
  pub knows : (j : ℕ) (v : Ask) → get_elem? s.views j ≡ maybe.some v → Knows at lines j v

-- a seat that waits for nothing
abbrev pub resting : TableId → Ask
resting at = record { turn = Idle; writer = 0; at = at }
