-- The one history of a stream, in each state that the table's rule allows: it holds between any two steps.
use Rattle.std.specs.Prelude.{◌≡◌, ◌≢◌, ℕ, ◌+◌, ◌%◌, ◌^◌, ◌<◌, ◌≤◌, true, List, [], ◌∷◌, ◌++◌, Some, None, length, slice_index, eqb}
use mathlib.Core.Option as maybe
use lib.ListN.{get_elem?}
use prog.Atomic.{either}
use Rattle.atomic_table.specs.Table as table
use Rattle.atomic_table.specs.Table.{step}
use Rattle.mx_core.specs.declared.history.Stored.{Stored}
use Rattle.mx_core.specs.declared.machine.Block.{Block}
use Rattle.mx_core.specs.Front.{IsFront}
use Rattle.mx_core.specs.History.{own, AreOf, Begins, Law, keeps_law}
use Rattle.mx_core.specs.Limits.{most_drawn}
use Rattle.mx_core.specs.Runs.{IsReached}
use Rattle.mx_core.specs.State.{State, block_of}
use Rattle.mx_lanes.specs.Held.{Held, StandsFor}
use Rattle.mx_front.specs.declared.board.Key.{Key}
use Rattle.mx_front.specs.declared.view.Right.TheVariants.{Nothing, Alone}
use Rattle.mx_front.specs.declared.view.Role.TheVariants.{Pen}
use Rattle.mx_front.specs.declared.view.View.{View}
use Rattle.mx_front.specs.declared.view.Turn.TheVariants.{Has}
use Rattle.mx_front.specs.Told.{Sat, block_at, can_store, claimed, came, looked, glanced, read_next, drew, put, left, learned}
use Rattle.mx_front.specs.World.{Slot, Ruled}

-- a pen's own list is all that its writer has stored, once and in its order, and its block is the one that the machine has for it
pub record IsPenOf {I : Type 0} (s : State I) (v : View I) (k : ℕ) : Type 0 where
  pub own_is : v.own ≡ own s.history k
  pub block : v.block ≡ block_of s k

pub record OneHistory {I : Type 0} (law : Law I) (words : List ℕ) (views : List (View I)) : Type 0 where
  -- the history, with the positions drawn and the blocks held, is reached by a run of the machine
  pub state : State I
  pub reached : IsReached state
  pub next : slice_index words 2 ≡ state.next
  pub count : slice_index words 3 ≡ length state.history
  pub below : state.next < 2 ^ 48
  -- each store is lawful after those of its writer before it
  pub lawful : keeps_law law [] state.history ≡ true
  -- the stream's writers alone have stored
  pub writers : AreOf (length state.held) state.history
  -- what each seat has seen begins it
  pub seen : (j : ℕ) (v : View I) → get_elem? views j ≡ maybe.some v → Begins v.seen state.history
  -- no block that is held lies at or below the front of what a seat has seen
  pub covers : (j : ℕ) (v : View I) (front k : ℕ) (b : Block) → get_elem? views j ≡ maybe.some v → IsFront v.seen front
      → block_of state k ≡ Some b → front < b.first
  pub pens : (j : ℕ) (v : View I) (k : ℕ) → get_elem? views j ≡ maybe.some v → v.who ≡ Pen k → IsPenOf state v k
  -- a writer has one pen
  pub one_pen : (i j : ℕ) (u v : View I) (k : ℕ) → get_elem? views i ≡ maybe.some u → get_elem? views j ≡ maybe.some v → u.who ≡ Pen k → v.who ≡ Pen k → i ≡ j
  -- a seat that alone may store has seen all of it, and no other may store
  pub whole : (j : ℕ) (v : View I) → get_elem? views j ≡ maybe.some v → v.right ≡ Alone → v.seen ≡ state.history
  pub alone : (i j : ℕ) (u v : View I) → get_elem? views i ≡ maybe.some u → get_elem? views j ≡ maybe.some v → u.right ≡ Alone → i ≢ j → v.right ≡ Nothing

abbrev pub SeesOneHistory : {I : Type 0} → Law I → Type 0
SeesOneHistory {I} law = (key : Key) (s : table.State (Slot I) (View I)) → Ruled law key s → OneHistory law s.words s.views

-- ---- histories grow

-- the rule, where some earlier history begins the history
pub record RuledFrom {I : Type 0} (law : Law I) (key : Key) (h : List (Stored I)) (s : table.State (Slot I) (View I)) : Type 0 where
  pub ruled : Ruled law key s
  pub grows : Begins h ruled.world.core.state.history

-- a step of a seat at a word, by which the history grows: what begins it before the step begins it afterwards
abbrev pub Grows : {I : Type 0} → Law I → Key → ℕ → ℕ → Sat I → ℕ → (ℕ → ℕ) → (ℕ → Sat I → Type 0) → Type 0
Grows {I} law key slots id m i f told = (h : List (Stored I)) → table.Allows (RuledFrom law key h) slots id m i f told

-- a pen may draw a block of n positions
pub record MayDraw {I : Type 0} (key : Key) (v : View I) (n k : ℕ) : Type 0 where
  pub who : v.who ≡ Pen k
  pub free : v.block ≡ None
  pub fresh : v.fresh ≡ true
  pub below : v.read < key.stop
  pub some_positions : 0 < n
  pub few : n ≤ most_drawn
  pub space : n ≤ v.reserve

-- a pen with the turn and with the right of a pass may store x: the book in hand has it
pub record MayPut {I : Type 0} (law : Law I) (m : Sat I) (t n : ℕ) (x : Stored I) (b : Held I) : Type 0 where
  pub hand : m.1 ≡ (0, Some b) ∷ []
  pub turn : m.0.turn ≡ Has t
  pub who : m.0.who ≡ Pen x.writer
  pub right : can_store m.0.right ≡ true
  pub block : m.0.block ≡ block_at x.first (length x.items)
  pub lawful : law x.writer m.0.own x.first x.items ≡ true
  pub stands : StandsFor (m.0.all ++ x ∷ []) b
  pub count : n ≡ length m.0.all + 1
  pub lanes : length b.spare ≡ length m.0.spares
  pub spent : slice_index b.spare x.writer + length x.items ≡ slice_index m.0.spares x.writer
  pub others : (i : ℕ) → i ≢ x.writer → slice_index b.spare i ≡ slice_index m.0.spares i

-- a seat may end its turn with a book in hand
pub record MayEnd {I : Type 0} (m : Sat I) (t : ℕ) (b : Held I) : Type 0 where
  pub hand : m.1 ≡ (0, Some b) ∷ []
  pub turn : m.0.turn ≡ Has t
  pub stands : StandsFor m.0.all b
  pub lanes : length b.spare ≡ length m.0.spares
  pub spares : (i : ℕ) → slice_index m.0.spares i ≤ slice_index b.spare i

-- the steps at the words 0 to 3 of the table
pub record AllGrow {I : Type 0} (law : Law I) (key : Key) (slots id : ℕ) (m : Sat I) : Type 0 where
  pub claims : (old : ℕ) → Grows law key slots id m 0 (λ n. either (eqb n old) (old + 1) n) (claimed (step slots 0 old (old + 1) maybe.none) m)
  pub learns : Grows law key slots id m 0 (λ n. n) (learned law (step slots 0 0 0 maybe.none) m)
  pub comes : Grows law key slots id m 1 (λ n. n) (came (step slots 1 0 0 maybe.none) m)
  pub leaves : (t : ℕ) (b : Held I) → MayEnd m t b → Grows law key slots id m 1 (λ _. t + 1) (λ _. left (step slots 1 (t + 1) 0 maybe.none) m (t + 1))
  pub reads : Grows law key slots id m 2 (λ n. n) (read_next (step slots 2 0 0 maybe.none) m)
  pub draws : (n k : ℕ) → MayDraw key m.0 n k → Grows law key slots id m 2 (λ x. (x + n) % 2 ^ 64) (drew (step slots 2 n 0 maybe.none) m)
  pub looks : (t : ℕ) → m.0.turn ≡ Has t → Grows law key slots id m 3 (λ n. n) (looked law (step slots 3 0 0 maybe.none) m)
  pub glances : Grows law key slots id m 3 (λ n. n) (glanced law (step slots 3 0 0 maybe.none) m)
  pub puts : (t n : ℕ) (x : Stored I) (b : Held I) → MayPut law m t n x b → Grows law key slots id m 3 (λ _. n) (λ _. put (step slots 3 n 0 maybe.none) m n)

abbrev pub StepsGrow : {I : Type 0} → Law I → Type 0
StepsGrow {I} law = (key : Key) (slots id : ℕ) (m : Sat I) → AllGrow law key slots id m
