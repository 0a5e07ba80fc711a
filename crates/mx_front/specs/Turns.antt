-- What the parts of a turn do to a seat.
use Rattle.std.specs.Prelude.{◌≡◌, ℕ, ◌+◌, ◌^◌, ◌<◌, ◌≤◌, true, false, List, [], ◌∷◌, ◌++◌, Some, length, slice_index}
use Rattle.mx_core.specs.declared.history.Stored.{Stored}
use Rattle.mx_core.specs.Front.{IsFront}
use Rattle.mx_core.specs.Orderly.{IsOrderly}
use Rattle.mx_core.specs.History.{is_stored, stored_count, AreOf, Begins, Law, keeps_law}
use Rattle.mx_core.specs.Limits.{most_held}
use Rattle.mx_lanes.specs.Held.{Held, StandsFor, Keeps}
use Rattle.mx_front.specs.declared.view.Right.TheVariants.{Alone}
use Rattle.mx_front.specs.declared.view.Role.TheVariants.{Pen}
use Rattle.mx_front.specs.declared.view.Turn.TheVariants.{Has}
use Rattle.mx_front.specs.declared.view.View.{View}
use Rattle.mx_front.specs.World.{Slot}
use Rattle.mx_front.specs.Told.{Sat, block_at, can_store, HasSpaceIn, OwnIn, storing}

-- the book is in hand
abbrev pub holding : {I : Type 0} → Held I → List (ℕ × Slot I)
holding b = (0, Some b) ∷ []

abbrev pub HasBook : {I : Type 0} → Sat I → Type 0
HasBook {I} m = (b : Held I) × (m.1 ≡ holding b)

abbrev pub entering : {I : Type 0} → View I → ℕ → List (Stored I) → List ℕ → View I
entering v ticket all spares = record v { turn = Has ticket; all = all; spares = spares }

-- the seat has the turn, with the book in hand
pub record Entered {I : Type 0} (v : View I) (ticket : ℕ) (m : Sat I) : Type 0 where
  pub book : Held I
  pub all : List (Stored I)
  pub is : m ≡ (entering v ticket all book.spare, holding book)
  pub stands : StandsFor all book
  pub space : HasSpaceIn v book.spare
  pub below : ticket + 1 < 2 ^ 64

abbrev pub seizing : {I : Type 0} → View I → ℕ → List (Stored I) → List ℕ → View I
seizing v ticket all spares = record v { turn = Has ticket; seen = all; looks = v.looks + 1; all = all; spares = spares }

-- and it has looked at the stores
pub record Seized {I : Type 0} (law : Law I) (v : View I) (ticket : ℕ) (m : Sat I) : Type 0 where
  pub book : Held I
  pub all : List (Stored I)
  pub is : m ≡ (seizing v ticket all book.spare, holding book)
  pub stands : StandsFor all book
  pub space : HasSpaceIn v book.spare
  pub below : ticket + 1 < 2 ^ 64
  pub begins : Begins v.seen all
  pub heard : Begins v.heard all
  pub alone : v.right ≡ Alone → all ≡ v.seen
  pub lawful : keeps_law law [] all ≡ true
  pub orderly : IsOrderly all
  pub writers : AreOf v.writers all
  pub reads : v.read ≤ stored_count all + most_held
  pub pen : (k : ℕ) → v.who ≡ Pen k → OwnIn v all k

-- a pen that has looked, with the right of a pass, may store
pub record Ready {I : Type 0} (law : Law I) (m : Sat I) (x : Stored I) (b : Held I) : Type 0 where
  pub hand : m.1 ≡ holding b
  pub ticket : ℕ
  pub turn : m.0.turn ≡ Has ticket
  pub who : m.0.who ≡ Pen x.writer
  pub right : can_store m.0.right ≡ true
  pub block : m.0.block ≡ block_at x.first (length x.items)
  pub lawful : law x.writer m.0.own x.first x.items ≡ true
  pub stands : StandsFor m.0.all b
  pub spares : m.0.spares ≡ b.spare
  pub lane : x.writer < length b.spare
  pub items : 0 < length x.items
  pub first : 1 ≤ x.first
  pub last : x.first + length x.items ≤ 2 ^ 48
  pub space : length x.items ≤ slice_index b.spare x.writer
  pub apart : (p : ℕ) → x.first ≤ p → p < x.first + length x.items → is_stored b.history p ≡ false

-- one store more, in hand and at the table
pub record Stores {I : Type 0} (v : View I) (x : Stored I) (f : ℕ) (m : Sat I) : Type 0 where
  pub book : Held I
  pub is : m ≡ (storing v x book, holding book)
  pub stands : StandsFor (v.all ++ x ∷ []) book
  pub front : IsFront (v.all ++ x ∷ []) f
  pub spent : slice_index book.spare x.writer + length x.items ≡ slice_index v.spares x.writer

-- the book in hand has more space, or is as it was
pub record Grown {I : Type 0} (m m' : Sat I) : Type 0 where
  pub old : Held I
  pub new : Held I
  pub hand : m.1 ≡ holding old
  pub is : m' ≡ (m.0, holding new)
  pub keeps : Keeps old new

-- the turn may end
pub record MayLeave {I : Type 0} (m : Sat I) (ticket : ℕ) (b : Held I) : Type 0 where
  pub hand : m.1 ≡ holding b
  pub turn : m.0.turn ≡ Has ticket
  pub stands : StandsFor m.0.all b
  pub count : length b.spare ≡ length m.0.spares
  pub spares : (i : ℕ) → slice_index m.0.spares i ≤ slice_index b.spare i
  pub below : ticket + 1 < 2 ^ 64
