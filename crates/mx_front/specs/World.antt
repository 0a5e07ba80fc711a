-- The rule of a stream's table: what its words and its slot stand for, and what each seat knows of it.
use Rattle.std.specs.Prelude.{◌≡◌, ℕ, zero, suc, ◌+◌, ◌*◌, ◌^◌, ◌<◌, ◌≤◌, Bool, true, false, List, [], ◌∷◌, Option, Some, None, length, slice_index}
use mathlib.Core.Option as maybe
use lib.ListN.{get_elem?}
use Rattle.atomic_table.specs.Table as table
use Rattle.mx_core.specs.declared.history.Stored.{Stored}
use Rattle.mx_core.specs.declared.machine.Block.{Block}
use Rattle.mx_core.specs.History.{own, Begins, Law, keeps_law}
use Rattle.mx_core.specs.Limits.{most_writers, most_drawn, last_stop}
use Rattle.mx_core.specs.Runs.{IsReached}
use Rattle.mx_core.specs.State.{State, block_of, count_of}
use Rattle.mx_lanes.specs.Held.{Held, StandsFor}
use Rattle.mx_front.specs.declared.board.Key.{Key}
use Rattle.mx_front.specs.declared.view.Right.{Right}
use Rattle.mx_front.specs.declared.view.Right.TheVariants.{Nothing, Shared, Alone}
use Rattle.mx_front.specs.declared.view.Role.{Role}
use Rattle.mx_front.specs.declared.view.Role.TheVariants.{Reader, Maker, Pen}
use Rattle.mx_front.specs.declared.view.Turn.{Turn}
use Rattle.mx_front.specs.declared.view.Turn.TheVariants.{Idle, Waits, Has}
use Rattle.mx_front.specs.declared.view.View.{View}
use Rattle.mx_front.specs.Queue.{Line, IsHome, Waiting, Having}

-- what the slot holds: the book
abbrev pub Slot : Type 0 → Type 0
Slot I = Option (Held I)

-- the machine of positions and its pens: the seat of each pen, the seat that makes pens and how many it has made, the pens whose last
-- draw ended at the stop or past it, the space that is set apart for each pen, and the seat that alone may store, unless several may
pub record Core (I : Type 0) : Type 0 where
  pub state : State I
  pub pen_of : ℕ → ℕ
  pub maker : ℕ
  pub made : ℕ
  pub over : ℕ → Bool
  pub space : ℕ → ℕ
  pub alone : Option ℕ

pub record World (I : Type 0) : Type 0 where
  pub line : Line (Held I)
  pub core : Core I

abbrev pub words_of : {I : Type 0} → World I → List ℕ
words_of w = w.line.ticket ∷ w.line.serving ∷ w.core.state.next ∷ length w.core.state.history ∷ []

-- how many of the first writers are past the stop
abbrev one_if : Bool → ℕ
one_if true = 1
one_if false = 0

abbrev pub passed : (ℕ → Bool) → ℕ → ℕ
passed over zero = 0
passed over (suc n) = one_if (over n) + passed over n

-- the machine is reached by a run, its blocks are short, and each draw that ended at the stop or past it was its writer's last
pub record Kept {I : Type 0} (law : Law I) (key : Key) (s : State I) (over : ℕ → Bool) : Type 0 where
  pub reached : IsReached s
  pub limit : s.limit ≡ 2 ^ 48
  pub writers : length s.held ≡ key.writers
  pub few : key.writers ≤ most_writers
  pub small : key.stop ≤ last_stop
  pub bound : s.next ≤ key.stop + most_drawn * passed over most_writers
  pub over_is : (k : ℕ) → over k ≡ true → key.stop ≤ s.next
  pub blocks : (k : ℕ) → count_of (block_of s k) ≤ most_drawn
  pub lawful : keeps_law law [] s.history ≡ true

-- a writer whose pen isn't made yet
pub record Unmade {I : Type 0} (w : Core I) (k : ℕ) : Type 0 where
  pub stores : own w.state.history k ≡ []
  pub block : block_of w.state k ≡ None
  pub over : w.over k ≡ false
  pub space : w.space k ≡ 0

-- a book stands for the history and has the space that is set apart
pub record Standing {I : Type 0} (lanes : ℕ) (h : List (Stored I)) (space : ℕ → ℕ) (b : Held I) : Type 0 where
  pub stands : StandsFor h b
  pub spaces : (k : ℕ) → space k ≤ slice_index b.spare k
  pub count : length b.spare ≡ lanes

-- a slot at home has such a book
abbrev pub Stocked : {I : Type 0} → ℕ → List (Stored I) → (ℕ → ℕ) → maybe.Option (Slot I) → Type 0
Stocked lanes h space maybe.none = Unit {0}
Stocked lanes h space (maybe.some None) = ⊥
Stocked lanes h space (maybe.some (Some b)) = Standing lanes h space b

pub record Good {I : Type 0} (law : Law I) (key : Key) (w : World I) : Type 0 where
  pub ordered : w.line.serving ≤ w.line.ticket
  -- where nobody waits the book is at home
  pub ready : w.line.serving ≡ w.line.ticket → IsHome w.line.slot
  pub kept : Kept law key w.core.state w.core.over
  pub most : w.core.made ≤ key.writers
  pub unmade : (k : ℕ) → w.core.made ≤ k → Unmade w.core k
  pub stocked : Stocked key.writers w.core.state.history w.core.space w.line.slot

-- a seat has the turn, with the book: it knows the history and the space of each lane
pub record InTurn {I : Type 0} (lanes : ℕ) (l : Line (Held I)) (h : List (Stored I)) (space : ℕ → ℕ) (j : ℕ) (all : List (Stored I))
    (spares : List ℕ) (t : ℕ) : Type 0 where
  pub queue : Having l j t
  pub whole : all ≡ h
  pub spaces : (k : ℕ) → space k ≤ slice_index spares k
  pub count : length spares ≡ lanes

abbrev pub Queued : {I : Type 0} → ℕ → Line (Held I) → List (Stored I) → (ℕ → ℕ) → ℕ → List (Stored I) → List ℕ → Turn → Type 0
Queued lanes l h space j all spares Idle = Unit {0}
Queued lanes l h space j all spares (Waits t) = Waiting l j t
Queued lanes l h space j all spares (Has t) = InTurn lanes l h space j all spares t

-- a seat is the pen of a writer: it knows all stores of the writer, its block and its space, and has read the stop where the writer is past it
pub record PenOf {I : Type 0} (key : Key) (w : Core I) (j : ℕ) (mine : List (Stored I)) (held : Option Block) (reserve read : ℕ)
    (fresh : Bool) (k : ℕ) : Type 0 where
  pub made : k < w.made
  pub seat : w.pen_of k ≡ j
  pub own_is : mine ≡ own w.state.history k
  pub block : block_of w.state k ≡ held
  pub space : w.space k ≡ reserve
  pub within : count_of held ≤ reserve
  pub value : fresh ≡ true → w.over k ≡ true → key.stop ≤ read

abbrev pub Plays : {I : Type 0} → Key → Core I → ℕ → List (Stored I) → Option Block → ℕ → ℕ → Bool → Role → Type 0
Plays key w j mine held reserve read fresh Reader = Unit {0}
Plays key w j mine held reserve read fresh (Maker k) = (w.maker ≡ j) × (w.made ≡ k)
Plays key w j mine held reserve read fresh (Pen k) = PenOf key w j mine held reserve read fresh k

-- whether a seat may store: the one that alone may has seen the whole history, and where others may none is alone
abbrev pub Holds : {I : Type 0} → Core I → ℕ → List (Stored I) → Right → Type 0
Holds w j seen Nothing = Unit {0}
Holds w j seen Shared = w.alone ≡ None
Holds w j seen Alone = (w.alone ≡ Some j) × (seen ≡ w.state.history)

-- a seat knows a bound on the number of writers, what it has seen and heard of begins the history, and what it has read of the word was there
pub record Knowing {I : Type 0} (key : Key) (w : Core I) (j : ℕ) (v : View I) : Type 0 where
  pub bound : key.writers ≤ v.writers
  pub sees : Begins v.seen w.state.history
  pub hears : Begins v.heard w.state.history
  pub reads : v.read ≤ w.state.next
  pub plays : Plays key w j v.own v.block v.reserve v.read v.fresh v.who
  pub holds : Holds w j v.seen v.right

pub record Knows {I : Type 0} (key : Key) (w : World I) (j : ℕ) (v : View I) : Type 0 where
  pub core : Knowing key w.core j v
  pub queued : Queued key.writers w.line w.core.state.history w.core.space j v.all v.spares v.turn

-- the rule
pub record Ruled {I : Type 0} (law : Law I) (key : Key) (s : table.State (Slot I) (View I)) : Type 0 where
  pub world : World I
  pub words : s.words ≡ words_of world
  pub homes : s.homes ≡ world.line.slot ∷ []
  pub good : Good law key world
  pub knows : (j : ℕ) (v : View I) → get_elem? s.views j ≡ maybe.some v → Knows key world j v

-- a seat that knows a bound on the number of writers alone, the seat that makes the pens, and the first seat
abbrev pub blank : {I : Type 0} → ℕ → Role → View I
blank writers who = record {
  turn = Idle;
  who = who;
  block = None;
  reserve = 0;
  read = 0;
  fresh = false;
  looks = 0;
  writers = writers;
  right = Nothing;
  of = record {};
  seen = [];
  heard = [];
  own = [];
  all = [];
  spares = [];
}

abbrev pub maker_of : {I : Type 0} → ℕ → ℕ → View I
maker_of writers k = record (blank writers (Maker k)) { right = Alone }

abbrev pub opening_view : {I : Type 0} → Key → View I
opening_view key = maker_of key.writers 0
