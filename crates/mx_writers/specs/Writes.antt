-- What a write answers and leaves.
use Rattle.std.specs.Prelude.{◌≡◌, ℕ, ◌+◌, ◌<◌, ◌≤◌, Bool, true, List, [], ◌∷◌, ◌++◌, Option, Some, None, Result, Ok, Err, length, nat_eq, if◌then◌else◌}
use Rattle.mx_core.specs.declared.history.Stored.{Stored}
use Rattle.mx_core.specs.Front.{IsFront}
use Rattle.mx_core.specs.History.{own, Begins}
use Rattle.mx_front.specs.declared.view.Right.TheVariants.{Alone}
use Rattle.mx_front.specs.declared.view.View.{View}
use Rattle.mx_writers.specs.declared.answers.Written.{Written}
use Rattle.mx_writers.specs.declared.answers.Refused.{Refused}
use Rattle.mx_writers.specs.declared.answers.Refused.TheVariants.{Fault, Full, Lost, Memory}
use Rattle.mx_writers.specs.Decision.{Decision, Placing, store_of, with_store, MayFollow}

-- the items are stored: the own list has one store more, what the pen has seen ends with it, and the front is that of this list
pub record HasStored {I : Type 0} (place : Placing I) (k : ℕ) (mine : List (Stored I)) (xs : List I) (w : Written) (v : View I) : Type 0 where
  pub count : w.count ≡ length xs
  pub some_items : 1 ≤ w.count
  pub lane : w.lane ≡ length mine
  pub follows : MayFollow mine w.first xs
  pub own_is : v.own ≡ with_store place k mine w.first xs
  pub before : List (Stored I)
  pub mine_is : own before k ≡ mine
  pub seen : v.seen ≡ before ++ store_of place k w.first xs ∷ []
  pub front : IsFront v.seen w.front

-- nothing is stored
pub record HasKept {I : Type 0} (n : ℕ) (mine : List (Stored I)) (w : Written) (v : View I) : Type 0 where
  pub first : w.first ≡ n
  pub count : w.count ≡ 0
  pub lane : w.lane ≡ length mine
  pub front : w.front ≡ 0
  pub own_is : v.own ≡ mine

-- a write answers by the decision of the writer k on its own stores `mine`, and leaves its pen with the view v
abbrev pub WritesBy : {I E : Type 0} → Placing I → Decision I E → ℕ → ℕ → List (Stored I) → Result Written (Refused E) → View I → Type 0
WritesBy place (Decision.Stores xs) k stop mine (Ok w) v = HasStored place k mine xs w v
WritesBy place (Decision.Stores xs) k stop mine (Err (Full n m)) v = (stop ≤ n) × (v.read ≡ n) × (m ≡ length mine) × (v.own ≡ mine)
WritesBy place (Decision.Stores xs) k stop mine (Err (Lost m)) v = (m ≡ length mine) × (v.own ≡ mine)
WritesBy place (Decision.Keeps n) k stop mine (Ok w) v = HasKept n mine w v
WritesBy place (Decision.Refuses e) k stop mine (Err (Fault f m)) v = (f ≡ e) × (m ≡ length mine) × (v.own ≡ mine)
WritesBy place d k stop mine (Err (Memory _)) v = v.own ≡ mine
WritesBy place d k stop mine answer v = ⊥

-- a write is lost only where what its writer keeps its stores by may fail
abbrev pub MayLose : {E : Type 0} → Bool → Result Written (Refused E) → Type 0
MayLose loses (Err (Lost m)) = loses ≡ true
MayLose loses answer = Unit {0}

-- how many stores a write made
abbrev pub stores_by : {E : Type 0} → Result Written (Refused E) → ℕ
stores_by (Ok w) = if nat_eq w.count 0 then 0 else 1
stores_by (Err e) = 0

-- what a write leaves of the pass that its store is made with, if it makes one. Where the pass alone may store it sees no other store
pub record IsBeside {I E : Type 0} (answer : Result Written (Refused E)) (old new : View I) : Type 0 where
  pub begins : Begins old.seen new.seen
  pub alone : old.right ≡ Alone → length new.seen ≡ length old.seen + stores_by answer
  pub right : new.right ≡ old.right
  pub fewer : new.writers ≤ old.writers
  pub read : new.read ≡ old.read
  pub looks : new.looks ≡ old.looks

-- a write in the turn of the writer k, with what its pass has seen before and after: `mine` are the writer's stores when its turn began,
-- and `pen` is what its pen knows when the turn ends
pub record WritesSeen {I D E : Type 0} (place : Placing I) (decides : ℕ → List (Stored I) → D → Decision I E) (k stop : ℕ) (draft : D)
    (answer : Result Written (Refused E)) (old new : View I) : Type 0 where
  pub mine : List (Stored I)
  pub pen : View I
  pub wrote : WritesBy place (decides k mine draft) k stop mine answer pen
  -- what the pass had seen of the writer's stores begins them, and it has then seen just the pen's own list
  pub before : Begins (own old.seen k) mine
  pub after : own new.seen k ≡ pen.own
  -- it has then seen all that it had seen, and all that the pen has, so a store and the list that its front is of
  pub seen : Begins old.seen new.seen
  pub told : Begins pen.seen new.seen
  pub fewer : new.writers ≤ old.writers
  pub kept : old.read ≤ new.read
  pub read : pen.read ≤ new.read
  pub looks : new.looks ≡ old.looks
  pub right : new.right ≡ old.right
  -- a pass that alone may store has seen the store that was made besides what it had seen, and no other
  pub alone : old.right ≡ Alone → length new.seen ≡ length old.seen + stores_by answer

-- what a gate is told by a write: the writer and the first position, exactly where the answer is a store
abbrev pub told_by : {E : Type 0} → ℕ → Result Written (Refused E) → Option (ℕ × ℕ)
told_by k (Ok w) = if nat_eq w.count 0 then None else Some (k, w.first)
told_by k (Err e) = None

-- a gate was told of the store that was made
abbrev pub WasTold : {E : Type 0} → (ℕ → ℕ → Bool) → ℕ → Result Written (Refused E) → Type 0
WasTold told k (Ok w) = 0 < w.count → told k w.first ≡ true
WasTold told k (Err e) = Unit {0}
