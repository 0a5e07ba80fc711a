-- What each step at a stream's table tells: of the step, the seat before, the number found and the seat after.
use Rattle.std.specs.Prelude.{◌≡◌, ◌≢◌, ℕ, ◌+◌, ◌-◌, ◌^◌, ◌<◌, ◌≤◌, Bool, true, false, List, [], ◌∷◌, ◌++◌, Option, Some, None, length, slice_index, max, min, nat_le, if◌then◌else◌}
use Rattle.atomic_table.specs.Table.{Me, Step}
use Rattle.mx_core.specs.declared.history.Stored.{Stored}
use Rattle.mx_core.specs.declared.machine.Block.{Block}
use Rattle.mx_core.specs.History.{own, is_stored, stored_count, AreOf, Begins, Law, keeps_law}
use Rattle.mx_core.specs.Limits.{most_writers, most_held}
use Rattle.mx_core.specs.Orderly.{IsOrderly, top}
use Rattle.mx_lanes.specs.Held.{Held, StandsFor}
use Rattle.mx_front.specs.declared.view.Right.{Right}
use Rattle.mx_front.specs.declared.view.Right.TheVariants.{Nothing, Shared, Alone}
use Rattle.mx_front.specs.declared.view.Role.{Role}
use Rattle.mx_front.specs.declared.view.Role.TheVariants.{Reader, Maker, Pen}
use Rattle.mx_front.specs.declared.view.Turn.TheVariants.{Idle, Waits, Has}
use Rattle.mx_front.specs.declared.view.View.{View}
use Rattle.mx_front.specs.World.{Slot, blank}

abbrev pub At : Type 0 → Type 0
At I = Step (Slot I)

abbrev pub Sat : Type 0 → Type 0
Sat I = Me (Slot I) (View I)

abbrev pub block_at : ℕ → ℕ → Option Block
block_at first count = Some (record { first = first; count = count })

-- a try to take a ticket
abbrev pub claimed : {I : Type 0} → At I → Sat I → ℕ → Sat I → Type 0
claimed st m found m' = (found ≡ st.first → m' ≡ (record m.0 { turn = Waits found }, m.1)) × (found ≢ st.first → m' ≡ m)

-- the space that is set apart for a pen is in its lane
abbrev pub HasSpaceIn : {I : Type 0} → View I → List ℕ → Type 0
HasSpaceIn v spares = (k : ℕ) → v.who ≡ Pen k → (v.reserve ≤ slice_index spares k) × (k < length spares)

pub record Came {I : Type 0} (m : Sat I) (found : ℕ) (m' : Sat I) : Type 0 where
  pub book : Held I
  pub all : List (Stored I)
  pub is : m' ≡ (record m.0 { turn = Has found; all = all; spares = book.spare }, (0, Some book) ∷ m.1)
  pub stands : StandsFor all book
  pub space : HasSpaceIn m.0 book.spare

-- the ticket that is served: the seat has the book where the ticket is its own
abbrev pub came : {I : Type 0} → At I → Sat I → ℕ → Sat I → Type 0
came st m found m' = (m.0.turn ≡ Waits found → Came m found m') × (m.0.turn ≢ Waits found → m' ≡ m)

-- what a look tells of a pen: its writer, its own stores, and a block of which no position is stored
pub record OwnIn {I : Type 0} (v : View I) (all : List (Stored I)) (k : ℕ) : Type 0 where
  pub below : k < v.writers
  pub own_is : own all k ≡ v.own
  pub block : (b : Block) → v.block ≡ Some b → (0 < b.first) × (0 < b.count) × (b.first + b.count ≤ 2 ^ 48) × (b.count ≤ v.reserve)
  pub above : (b : Block) → v.block ≡ Some b → top 0 v.own < b.first
  pub apart : (b : Block) (p : ℕ) → v.block ≡ Some b → b.first ≤ p → p < b.first + b.count → is_stored all p ≡ false

-- a look of the seat that alone may store finds what it had seen
pub record Looked {I : Type 0} (law : Law I) (v : View I) (found : ℕ) : Type 0 where
  pub count : found ≡ length v.all
  pub begins : Begins v.seen v.all
  pub heard : Begins v.heard v.all
  pub alone : v.right ≡ Alone → v.all ≡ v.seen
  pub lawful : keeps_law law [] v.all ≡ true
  pub orderly : IsOrderly v.all
  pub writers : AreOf v.writers v.all
  pub reads : v.read ≤ stored_count v.all + most_held
  pub pen : (k : ℕ) → v.who ≡ Pen k → OwnIn v v.all k

abbrev pub looking : {I : Type 0} → View I → View I
looking v = record v { seen = v.all; looks = v.looks + 1 }

-- a look at the stores
abbrev pub looked : {I : Type 0} → Law I → At I → Sat I → ℕ → Sat I → Type 0
looked law st m found m' = (m' ≡ (looking m.0, m.1)) × Looked law m.0 found

-- what a look without a turn tells of the stores of its moment
pub record Glanced {I : Type 0} (law : Law I) (v : View I) (found : ℕ) (all : List (Stored I)) : Type 0 where
  pub count : found ≡ length all
  pub begins : Begins v.seen all
  pub alone : v.right ≡ Alone → all ≡ v.seen
  pub lawful : keeps_law law [] all ≡ true
  pub orderly : IsOrderly all
  pub writers : AreOf v.writers all
  pub reads : v.read ≤ stored_count all + most_held

abbrev pub glancing : {I : Type 0} → View I → List (Stored I) → View I
glancing v all = record v { seen = all; looks = v.looks + 1 }

abbrev pub glanced : {I : Type 0} → Law I → At I → Sat I → ℕ → Sat I → Type 0
glanced {I} law st m found m' = (all : List (Stored I)) × (m' ≡ (glancing m.0 all, m.1)) × Glanced law m.0 found all

-- the number of positions that were drawn
abbrev pub read_next : {I : Type 0} → At I → Sat I → ℕ → Sat I → Type 0
read_next st m found m' = (m' ≡ (record m.0 { read = found; fresh = true }, m.1)) × (m.0.read ≤ found)

-- after a draw
abbrev pub drawing : {I : Type 0} → View I → ℕ → ℕ → View I
drawing v last count = record v { block = block_at (last + 1) count; read = last; fresh = false }

pub record Above {I : Type 0} (mine : List (Stored I)) (last : ℕ) : Type 0 where
  pub stores : length mine ≤ last
  pub positions : (p : ℕ) → is_stored mine p ≡ true → p ≤ last

abbrev pub drew : {I : Type 0} → At I → Sat I → ℕ → Sat I → Type 0
drew st m found m' = (m' ≡ (drawing m.0 found st.first, m.1)) × (m.0.read ≤ found) × (found + st.first < 2 ^ 48) × Above m.0.own found

-- after a store
abbrev pub storing : {I : Type 0} → View I → Stored I → Held I → View I
storing v x b = record v {
  seen = v.all ++ x ∷ [];
  all = v.all ++ x ∷ [];
  own = v.own ++ x ∷ [];
  block = None;
  reserve = v.reserve - length x.items;
  spares = b.spare;
}

abbrev pub put : {I : Type 0} → At I → Sat I → ℕ → Sat I → Type 0
put {I} st m found m' =
    (x : Stored I) (b : Held I) → m.1 ≡ (0, Some b) ∷ [] → m.0.who ≡ Pen x.writer → StandsFor (m.0.all ++ x ∷ []) b → m' ≡ (storing m.0 x b, m.1)

-- the space of a seat after its turn: that of its lane, if it is a pen
abbrev pub reserve_in : Role → ℕ → List ℕ → ℕ
reserve_in (Pen k) reserve spares = slice_index spares k
reserve_in who reserve spares = reserve

abbrev pub leaving : {I : Type 0} → View I → Held I → View I
leaving v b = record v { turn = Idle; reserve = reserve_in v.who v.reserve b.spare }

abbrev pub left : {I : Type 0} → At I → Sat I → ℕ → Sat I → Type 0
left {I} st m found m' = (b : Held I) → m.1 ≡ (0, Some b) ∷ [] → m' ≡ (leaving m.0 b, [])

-- the longer and the shorter of two lists
abbrev pub longer : {A : Type 0} → List A → List A → List A
longer xs ys = if nat_le (length ys) (length xs) then xs else ys

abbrev pub shorter : {A : Type 0} → List A → List A → List A
shorter xs ys = if nat_le (length ys) (length xs) then ys else xs

-- what is learned of what was seen and heard of
pub record Learned {I : Type 0} (law : Law I) (v : View I) : Type 0 where
  pub begins : Begins (shorter v.seen v.heard) (longer v.seen v.heard)
  pub lawful : keeps_law law [] (longer v.seen v.heard) ≡ true
  pub orderly : IsOrderly (longer v.seen v.heard)
  pub writers : AreOf v.writers (longer v.seen v.heard)
  pub seen : (k : ℕ) → v.who ≡ Pen k → Begins (own v.seen k) v.own
  pub heard : (k : ℕ) → v.who ≡ Pen k → Begins (own v.heard k) v.own
  pub alone : v.right ≡ Alone → longer v.seen v.heard ≡ v.seen

abbrev pub learned : {I : Type 0} → Law I → At I → Sat I → ℕ → Sat I → Type 0
learned law st m found m' = (m' ≡ m) × Learned law m.0

-- the seat that makes pens, and the pen that it made
abbrev pub maker_after : Role → Role
maker_after (Maker k) = Maker (k + 1)
maker_after who = who

abbrev pub pen_after : Role → Role
pen_after (Maker k) = Pen k
pen_after who = Reader

abbrev pub next_maker : {I : Type 0} → View I → View I
next_maker v = record v { who = maker_after v.who }

abbrev pub new_pen : {I : Type 0} → View I → View I
new_pen v = blank v.writers (pen_after v.who)

abbrev pub same : {I : Type 0} → View I → View I
same v = v

-- a new reader that has seen as much
abbrev pub reader_of : {I : Type 0} → View I → View I
reader_of v = record (blank v.writers Reader) { seen = v.seen; read = v.read }

-- whether a seat may store, and what becomes of the right that two share, and of the rights of two that are joined
abbrev pub can_store : Right → Bool
can_store Nothing = false
can_store Shared = true
can_store Alone = true

abbrev pub shared : Right → Right
shared Nothing = Nothing
shared Shared = Shared
shared Alone = Shared

abbrev pub joined : Right → Right → Right
joined Nothing q = q
joined Shared q = Shared
joined Alone q = Alone

-- two that may store, in the place of one
abbrev pub sharing : {I : Type 0} → View I → View I
sharing v = record v { right = shared v.right }

abbrev pub sharer_of : {I : Type 0} → View I → View I
sharer_of v = record (reader_of v) { right = shared v.right }

-- a seat gives its right to store away, with what it has seen
abbrev pub lending : {I : Type 0} → View I → View I
lending v = record v { right = Nothing }

abbrev pub lent : {I : Type 0} → View I → View I
lent v = record (reader_of v) { right = v.right }

-- a seat that was joined to another
abbrev pub spent : {I : Type 0} → View I
spent = blank most_writers Reader

-- the first seat after a join: it has seen the longer list and has heard of the shorter
abbrev pub both : {I : Type 0} → View I → View I → View I
both v w = record v { seen = longer v.seen w.seen; heard = shorter v.seen w.seen; read = max v.read w.read; writers = min v.writers w.writers; right = joined v.right w.right }

-- the first seat after it was lent the right of the second: it has seen what that has, and has heard of what it had seen
abbrev pub borrowing : {I : Type 0} → View I → View I → View I
borrowing v w = record v { seen = w.seen; heard = v.seen; writers = min v.writers w.writers; right = w.right }

abbrev pub hearing : {I : Type 0} → View I → View I → View I
hearing v w = record v { heard = w.seen; writers = min v.writers w.writers }
