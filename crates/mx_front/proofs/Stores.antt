-- A store that is made with a pass: what the pen and the pass know after it, over plain values.
use Rattle.std.proofs.Common.{◌≡◌, ℕ, ◌≤◌, true, List, [], ◌∷◌, ◌++◌, Option, min, refl, sym, ap, ◌∙◌, subst, arith}
use Rattle.mx_core.specs.declared.history.Stored.{Stored}
use Rattle.mx_core.specs.declared.machine.Block.{Block}
use Rattle.mx_core.specs.History.{own, Law}
use Rattle.mx_core.proofs.Histories.{begins_self, begins_trans}
use Rattle.mx_core.proofs.Owns.{are_of_front}
use Rattle.mx_front.specs.declared.view.Right.TheVariants.{Nothing}
use Rattle.mx_front.specs.declared.view.Role.TheVariants.{Pen}
use Rattle.mx_front.specs.declared.view.Turn.TheVariants.{Idle}
use Rattle.mx_front.specs.declared.view.View.{View}
use Rattle.mx_front.specs.Told.{Sat, borrowing, can_store, lending, lent}
use Rattle.mx_front.specs.Calls.{Finishes, SeesStore}
use Rattle.mx_front.proofs.Seats.{Finished}

module _ {I : Type 0} where
  -- a pen that was lent the right of a pass
  pub pen_lent : (p q p1 : Sat I) (k : ℕ) → p1 ≡ (borrowing p.0 (lent q.0), p.1) → p.0.who ≡ Pen k → p1.0.who ≡ Pen k
  pen_lent p q p1 k is who = ap (λ (y : Sat I). y.0.who) is ∙ who

  pub right_lent : (p q p1 : Sat I) → p1 ≡ (borrowing p.0 (lent q.0), p.1) → can_store q.0.right ≡ true → can_store p1.0.right ≡ true
  right_lent p q p1 is may = ap (λ (y : Sat I). can_store y.0.right) is ∙ may

  pub block_lent : (p q p1 : Sat I) (o : Option Block) → p1 ≡ (borrowing p.0 (lent q.0), p.1) → p.0.block ≡ o → p1.0.block ≡ o
  block_lent p q p1 o is at = ap (λ (y : Sat I). y.0.block) is ∙ at

  pub law_lent : (law : Law I) (p q p1 : Sat I) (x : Stored I) → p1 ≡ (borrowing p.0 (lent q.0), p.1) → law x.writer p.0.own x.first x.items ≡ true → law x.writer p1.0.own x.first x.items ≡ true
  law_lent law p q p1 x is e = ap (λ (y : Sat I). law x.writer y.0.own x.first x.items) is ∙ e

-- the pen and the pass once the store is made, where v is what the pen knew before it, and `old` the pass
pub record HasStored {I : Type 0} (law : Law I) (v : View I) (old : Sat I) (x : Stored I) (front : ℕ) (p q : Sat I) : Type 0 where
  pub rests : (p.0.turn ≡ Idle) × (p.1 ≡ [])
  pub writes : p.0.who ≡ Pen x.writer
  pub lends : p.0.right ≡ Nothing
  pub complete : own p.0.seen x.writer ≡ p.0.own
  pub finishes : Finishes law v x front p.0
  pub turn : q.0.turn ≡ old.0.turn
  pub bare : q.1 ≡ old.1
  pub sees : SeesStore old.0 x p.0 q.0

module _ {I : Type 0} (law : Law I) where
  stored_with : (v u w : View I) (c d : List (ℕ × Rattle.mx_front.specs.World.Slot I)) (x : Stored I) (front : ℕ) → Finished law (borrowing v (lent u)) x front (w, c)
      → HasStored law v (u, d) x front (lending w, c) (borrowing (lending u) (lent w), d)
  stored_with v u w c d x front f =
      let fin = f.finishes in
      let least = min u.writers w.writers in
      let few : w.writers ≤ least = omega (arith, f.bound) in record {
        rests = f.rests;
        writes = f.writes;
        lends = refl;
        complete = f.complete;
        finishes = record {
          before = fin.before;
          begins = f.heard;
          mine = fin.mine;
          seen = fin.seen;
          own_is = fin.own_is;
          block = fin.block;
          front = fin.front;
          lawful = fin.lawful;
          orderly = fin.orderly;
          reserve = fin.reserve;
          read = fin.read;
          fresh = fin.fresh;
        };
        turn = refl;
        bare = refl;
        sees = record {
          seen = refl;
          begins = begins_trans u.seen fin.before w.seen fin.begins (x ∷ [], fin.seen);
          alone = λ is. fin.seen ∙ ap (λ l. l ++ x ∷ []) (f.alone is);
          right = f.right;
          fewer = omega arith;
          writers = are_of_front w.writers least w.seen w.seen few (begins_self w.seen) f.writers;
          read = refl;
          looks = refl;
        };
      }

  -- the right goes to the pen p, which stores, and back to the pass q
  pub has_stored : (p p1 m p3 q q1 q3 : Sat I) (x : Stored I) (front : ℕ) → p1 ≡ (borrowing p.0 (lent q.0), p.1) → q1 ≡ (lending q.0, q.1) → Finished law p1.0 x front m → q3 ≡ (borrowing q1.0 (lent m.0), q1.1) → p3 ≡ (lending m.0, m.1)
      → HasStored law p.0 q x front p3 q3
  has_stored p p1 m p3 q q1 q3 x front borrowed lends f back given =
      let g : Finished law (borrowing p.0 (lent q.0)) x front m = subst (λ (y : Sat I). Finished law y.0 x front m) borrowed f in
      let is : q3 ≡ (borrowing (lending q.0) (lent m.0), q.1) = back ∙ (λ i. (borrowing (lends i).0 (lent m.0), (lends i).1)) in
      subst (λ (y : Sat I × Sat I). HasStored law p.0 q x front y.0 y.1) (λ i. (sym given i, sym is i)) (stored_with p.0 q.0 m.0 m.1 q.1 x front g)
