-- What the calls of a stream do to what a pen or a pass knows.
use Rattle.std.specs.Prelude.{◌≡◌, ℕ, ◌+◌, ◌^◌, ◌<◌, ◌≤◌, true, List, [], ◌∷◌, ◌++◌, None, length, max}
use Rattle.mx_core.specs.declared.history.Stored.{Stored}
use Rattle.mx_core.specs.Front.{IsFront}
use Rattle.mx_core.specs.History.{own, stored_count, AreOf, Begins, Law, keeps_law}
use Rattle.mx_core.specs.Limits.{most_held}
use Rattle.mx_core.specs.Orderly.{IsOrderly}
use Rattle.mx_lanes.specs.Parts.{Taken, IsUpTo}
use Rattle.mx_front.specs.declared.handles.Drawn.{Drawn}
use Rattle.mx_front.specs.declared.view.Right.TheVariants.{Alone}
use Rattle.mx_front.specs.declared.handles.Full.{Full}
use Rattle.mx_front.specs.declared.view.View.{View}
use Rattle.mx_front.specs.Told.{drawing, joined, longer, Above}

-- a block was drawn: the word was read below the stop, and then at the position before the block
pub record Draws {I : Type 0} (v : View I) (stop n : ℕ) (d : Drawn) (v' : View I) : Type 0 where
  pub count : d.count ≡ n
  pub before : ℕ
  pub first : d.first ≡ before + 1
  pub view : v' ≡ drawing v before n
  pub read : ℕ
  pub later : v.read ≤ read
  pub below : read < stop
  pub rises : read ≤ before
  pub last : before + n < 2 ^ 48
  -- the block lies after the stores of its writer
  pub above : Above v.own before

-- the stream was found full: the word was read at the stop or past it
pub record Fills {I : Type 0} (v : View I) (stop : ℕ) (f : Full) (v' : View I) : Type 0 where
  pub full : stop ≤ f.next
  pub later : v.read ≤ f.next
  pub view : v' ≡ record v { read = f.next; fresh = true }

-- a store was made: what the pen has seen ends with it
pub record Finishes {I : Type 0} (law : Law I) (v : View I) (x : Stored I) (f : ℕ) (v' : View I) : Type 0 where
  pub before : List (Stored I)
  pub begins : Begins v.seen before
  pub mine : own before x.writer ≡ v.own
  pub seen : v'.seen ≡ before ++ x ∷ []
  pub own_is : v'.own ≡ v.own ++ x ∷ []
  pub block : v'.block ≡ None
  pub front : IsFront v'.seen f
  pub lawful : keeps_law law [] v'.seen ≡ true
  pub orderly : IsOrderly v'.seen
  pub reserve : v.reserve ≤ v'.reserve + length x.items
  pub read : v'.read ≡ v.read
  pub fresh : v'.fresh ≡ v.fresh

-- a pass saw the store x that was made with it: it has then seen what the pen has, which ends with that store. One that alone may store
-- has then seen nothing else besides what it had seen
pub record SeesStore {I : Type 0} (u : View I) (x : Stored I) (pen u' : View I) : Type 0 where
  pub seen : u'.seen ≡ pen.seen
  pub begins : Begins u.seen u'.seen
  pub alone : u.right ≡ Alone → u'.seen ≡ u.seen ++ x ∷ []
  pub right : u'.right ≡ u.right
  pub fewer : u'.writers ≤ u.writers
  pub writers : AreOf u'.writers u'.seen
  pub read : u'.read ≡ u.read
  pub looks : u'.looks ≡ u.looks

-- space was made: nothing else changed
pub record KeepsSpace {I : Type 0} (v v' : View I) : Type 0 where
  pub reserve : v.reserve ≤ v'.reserve
  pub seen : v'.seen ≡ v.seen
  pub own_is : v'.own ≡ v.own
  pub block : v'.block ≡ v.block
  pub read : v'.read ≡ v.read
  pub fresh : v'.fresh ≡ v.fresh

-- a look: what the pass had seen begins what it has then seen, each store of a writer below the number that it knows, and no more than
-- 8,192 positions that it has read of are wanting. A pass that alone may store has seen nothing else than before
pub record Looks {I : Type 0} (law : Law I) (v v' : View I) : Type 0 where
  pub begins : Begins v.seen v'.seen
  pub looks : v'.looks ≡ v.looks + 1
  pub lawful : keeps_law law [] v'.seen ≡ true
  pub orderly : IsOrderly v'.seen
  pub read : v'.read ≡ v.read
  pub fewer : v'.writers ≤ v.writers
  pub writers : AreOf v'.writers v'.seen
  pub reads : v'.read ≤ stored_count v'.seen + most_held
  pub right : v'.right ≡ v.right
  pub alone : v.right ≡ Alone → v'.seen ≡ v.seen

-- the items up to the front of what was seen
pub record Shows {I : Type 0} (seen : List (Stored I)) (taken : Taken I) : Type 0 where
  pub front : ℕ
  pub is : IsFront seen front
  pub parts : IsUpTo seen front taken

-- two passes met: the first has seen the longer of the two lists, and both begin it
pub record Meets {I : Type 0} (law : Law I) (v u v' : View I) : Type 0 where
  pub seen : v'.seen ≡ longer v.seen u.seen
  pub first : Begins v.seen v'.seen
  pub second : Begins u.seen v'.seen
  pub lawful : keeps_law law [] v'.seen ≡ true
  pub orderly : IsOrderly v'.seen
  pub fewer : v'.writers ≤ v.writers
  pub writers : AreOf v'.writers v'.seen
  pub read : v'.read ≡ max v.read u.read
  pub looks : v'.looks ≡ v.looks
  pub right : v'.right ≡ joined v.right u.right
  pub alone : v.right ≡ Alone → v'.seen ≡ v.seen

-- a pass noted what a pen has seen: the stores of the pen's writer k that the pass had seen begin the pen's own list, and then are just
-- these. One that alone may store had seen all that the pen has
pub record Notes {I : Type 0} (law : Law I) (k : ℕ) (pen v v' : View I) : Type 0 where
  pub first : Begins v.seen v'.seen
  pub second : Begins pen.seen v'.seen
  pub before : Begins (own v.seen k) pen.own
  pub after : own v'.seen k ≡ pen.own
  pub lawful : keeps_law law [] v'.seen ≡ true
  pub orderly : IsOrderly v'.seen
  pub fewer : v'.writers ≤ v.writers
  pub writers : AreOf v'.writers v'.seen
  pub read : v'.read ≡ max v.read pen.read
  pub looks : v'.looks ≡ v.looks
  pub right : v'.right ≡ v.right
  pub alone : v.right ≡ Alone → v'.seen ≡ v.seen
