-- What each part of a turn gives the next, over plain values.
use Rattle.std.proofs.Common.{◌≡◌, ℕ, ◌+◌, ◌-◌, ◌^◌, ◌<◌, ◌≤◌, true, List, [], ◌∷◌, ◌++◌, Some, None, length, length-append, get_or, refl, sym, ap, ◌∙◌, subst, arith}
use mathlib.Core.Option as maybe
use Rattle.atomic_table.specs.Table.{step, Allows, rest}
use Rattle.mx_core.specs.declared.history.Stored.{Stored}
use Rattle.mx_core.specs.Front.{IsFront}
use Rattle.mx_core.specs.History.{own, is_stored, AreOf, Begins, Law}
use Rattle.mx_core.specs.Orderly.{top}
use Rattle.mx_core.proofs.Orders.{orderly_more}
use Rattle.mx_core.proofs.Owns.{own-here, keeps_law_more, are_of_more}
use Rattle.mx_lanes.specs.Held.{Held, StandsFor, Keeps, OthersKeep, spare_of}
use Rattle.mx_lanes.specs.Parts.{Taken, IsUpTo}
use Rattle.std.proofs.Common.{Result, IfOk, OnOk}
use Rattle.std.proofs.lemmas.Result.{IfOk-weaker, on_ok_weaker}
use Rattle.mx_lanes.proofs.Stands.{one_store_more, stands_still}
use Rattle.mx_front.specs.declared.board.Key.{Key}
use Rattle.mx_front.specs.declared.view.Right.TheVariants.{Alone}
use Rattle.mx_front.specs.declared.view.Role.TheVariants.{Pen}
use Rattle.mx_front.specs.declared.view.Turn.TheVariants.{Idle, Waits, Has}
use Rattle.mx_front.specs.declared.view.View.{View}
use Rattle.mx_front.specs.World.{Slot, Ruled}
use Rattle.mx_front.specs.Told.{Sat, block_at, can_store, Came, Looked, Glanced, looking, glancing, storing, put, reserve_in, leaving}
use Rattle.mx_front.specs.Turns.{holding, HasBook, entering, Entered, seizing, Seized, Ready, Stores, Grown, MayLeave}
use Rattle.mx_front.specs.Calls.{Finishes, KeepsSpace, Looks, Shows}
use Rattle.mx_front.proofs.Allowed.{puts_at}
use Rattle.mx_front.proofs.Moves.{in_hand}

module _ {I : Type 0} where
  -- a ticket and the book
  pub entered : (m m1 m2 : Sat I) (t : ℕ) → m.1 ≡ [] → m1 ≡ (record m.0 { turn = Waits t }, m.1) → Came m1 t m2 → t + 1 < 2 ^ 64 → Entered m.0 t m2
  entered m m1 m2 t bare is came0 below =
      let came : Came (record m.0 { turn = Waits t }, m.1) t m2 = subst (λ x. Came x t m2) is came0 in record {
        book = came.book;
        all = came.all;
        is = came.is ∙ ap (λ c. (entering m.0 t came.all came.book.spare, (0, Some came.book) ∷ c)) bare;
        stands = came.stands;
        space = came.space;
        below = below;
      }

  pub has_rest : (c : List (ℕ × Slot I)) (b : Held I) → c ≡ holding b → c ≡ (0, Some b) ∷ rest c
  has_rest c b e = e ∙ ap (λ l. (0, Some b) ∷ l) (sym (ap rest e))

  pub has_turn : (v : View I) (t : ℕ) (m : Sat I) → Entered v t m → m.0.turn ≡ Has t
  has_turn v t m e = ap (λ x. x.0.turn) e.is

module _ {I : Type 0} (law : Law I) where
  pub seized : (v : View I) (t found : ℕ) (m m' : Sat I) → Entered v t m → (m' ≡ (looking m.0, m.1)) × Looked law m.0 found → Seized law v t m'
  seized v t found m m' e looked0 =
      let l : Looked law (entering v t e.all e.book.spare) found = subst (λ (x : Sat I). Looked law x.0 found) e.is looked0.1 in record {
        book = e.book;
        all = e.all;
        is = looked0.0 ∙ ap (λ (x : Sat I). let y : Sat I = (looking x.0, x.1) in y) e.is;
        stands = e.stands;
        space = e.space;
        below = e.below;
        begins = l.begins;
        heard = l.heard;
        alone = l.alone;
        lawful = l.lawful;
        orderly = l.orderly;
        writers = l.writers;
        reads = l.reads;
        pen = λ k who. let o = l.pen k who in record { below = o.below; own_is = o.own_is; block = o.block; above = o.above; apart = o.apart };
      }

  -- a pen with a block may store it
  pub ready : (v : View I) (t : ℕ) (m : Sat I) (x : Stored I) → Seized law v t m → v.who ≡ Pen x.writer → can_store v.right ≡ true → v.block ≡ block_at x.first (length x.items)
      → law x.writer v.own x.first x.items ≡ true → (b : Held I) × Ready law m x b
  ready v t m x s who right block lawful =
      let o = s.pen x.writer who in
      let r = s.space x.writer who in
      let b = o.block (record { first = x.first; count = length x.items }) block in (
        s.book,
        subst (λ n. Ready law n x s.book) (sym s.is) (record {
          hand = refl;
          ticket = t;
          turn = refl;
          who = who;
          right = right;
          block = block;
          lawful = lawful;
          stands = s.stands;
          spares = refl;
          lane = r.1;
          items = b.1;
          first = b.0;
          last = b.2;
          space = omega (arith, b.3, r.0);
          apart = λ p low high. ap (λ h. is_stored h p) s.stands.history ∙ o.apart (record { first = x.first; count = length x.items }) p block low high;
        }),
      )

  pub ready_in : (m : Sat I) (x : Stored I) (b o : Held I) → Ready law m x b → m.1 ≡ holding o → Ready law m x o
  ready_in m x b o r at = subst (Ready law m x) (in_hand b o (sym r.hand ∙ at)) r

  -- the book went out, one store was made, and the book went back
  pub puts_from : (key : Key) (slots id n : ℕ) (m m1 m2 : Sat I) (x : Stored I) (o b : Held I) → Ready law m x o → m1 ≡ (m.0, (0, None) ∷ []) → m2 ≡ (m1.0, holding b)
      → b.history ≡ o.history ++ x ∷ [] → IsFront b.history b.front → spare_of b x.writer + length x.items ≡ spare_of o x.writer → OthersKeep x.writer o b → n ≡ length b.history
      → Allows (Ruled law key) slots id m2 3 (λ _. n) (λ _. put (step slots 3 n 0 maybe.none) m2 n)
  puts_from key slots id n m m1 m2 x o b r out back history front spent others count =
      let is : m2 ≡ (m.0, holding b) = back ∙ ap (λ (y : Sat I). let z : Sat I = (y.0, holding b) in z) out in
      subst (λ (y : Sat I). Allows (Ruled law key) slots id y 3 (λ _. n) (λ _. put (step slots 3 n 0 maybe.none) y n)) (sym is)
      (puts_at law key slots id r.ticket n (m.0, holding b) x b refl r.turn r.who r.right r.block r.lawful (one_store_more m.0.all x o b r.stands history front)
      (omega (arith, count, ap length history, length-append o.history (x ∷ []), r.stands.stores))
      (omega (arith, others.lanes, ap length r.spares))
      (spent ∙ ap (λ l. get_or l x.writer 0) (sym r.spares))
      (λ i ne. others.others i ne ∙ ap (λ l. get_or l i 0) (sym r.spares)))

  pub stored_from : (m m1 m2 m3 : Sat I) (x : Stored I) (o b : Held I) (front slots n : ℕ) → Ready law m x o → m1 ≡ (m.0, (0, None) ∷ []) → m2 ≡ (m1.0, holding b)
      → put (step slots 3 n 0 maybe.none) m2 n m3 → b.history ≡ o.history ++ x ∷ [] → IsFront b.history b.front → spare_of b x.writer + length x.items ≡ spare_of o x.writer
      → IsFront b.history front → Stores m.0 x front m3
  stored_from m m1 m2 m3 x o b front slots n r out back told history first spent is_front =
      let is : m2 ≡ (m.0, holding b) = back ∙ ap (λ (y : Sat I). let z : Sat I = (y.0, holding b) in z) out in
      let stands : StandsFor (m.0.all ++ x ∷ []) b = one_store_more m.0.all x o b r.stands history first in
      let got : put (step slots 3 n 0 maybe.none) (m.0, holding b) n m3 = subst (λ (y : Sat I). put (step slots 3 n 0 maybe.none) y n m3) is told in record {
        book = b;
        is = got x b refl r.who stands;
        stands = stands;
        front = subst (λ h. IsFront h front) stands.history is_front;
        spent = spent ∙ ap (λ l. get_or l x.writer 0) (sym r.spares);
      }

  -- the turn may end after a store
  pub stored_leaves : (v : View I) (t front : ℕ) (m m' : Sat I) (x : Stored I) → Seized law v t m → Stores m.0 x front m' → (b : Held I) × MayLeave m' t b
  stored_leaves v t front m m' x s st0 =
      let st : Stores (seizing v t s.all s.book.spare) x front m' = subst (λ (y : Sat I). Stores y.0 x front m') s.is st0 in (
        st.book,
        subst (λ y. MayLeave y t st.book) (sym st.is) (record {
          hand = refl;
          turn = refl;
          stands = st.stands;
          count = refl;
          spares = λ i. omega arith;
          below = s.below;
        }),
      )

  -- what a pen knows after a store
  pub record Finished (v : View I) (x : Stored I) (front : ℕ) (m : Sat I) : Type 0 where
    pub rests : (m.0.turn ≡ Idle) × (m.1 ≡ [])
    pub writes : m.0.who ≡ Pen x.writer
    pub complete : own m.0.seen x.writer ≡ m.0.own
    pub finishes : Finishes law v x front m.0
    -- with the right that it has
    pub heard : Begins v.heard finishes.before
    pub alone : v.right ≡ Alone → finishes.before ≡ v.seen
    pub right : m.0.right ≡ v.right
    pub bound : m.0.writers ≡ v.writers
    pub writers : AreOf m.0.writers m.0.seen

  pub finished : (v : View I) (t front : ℕ) (m m1 m2 : Sat I) (x : Stored I) → Seized law v t m → v.who ≡ Pen x.writer → v.block ≡ block_at x.first (length x.items)
      → law x.writer v.own x.first x.items ≡ true → Stores m.0 x front m1 → ((b : Held I) → m1.1 ≡ holding b → m2 ≡ (leaving m1.0 b, [])) → Finished v x front m2
  finished v t front m m1 m2 x s who block lawful st0 left =
      let st : Stores (seizing v t s.all s.book.spare) x front m1 = subst (λ (y : Sat I). Stores y.0 x front m1) s.is st0 in
      let o = s.pen x.writer who in
      let u : View I = leaving (storing (seizing v t s.all s.book.spare) x st.book) st.book in
      let is : m2 ≡ (u, []) = left st.book (ap (λ (y : Sat I). y.1) st.is) ∙ ap (λ (y : Sat I). let z : Sat I = (leaving y.0 st.book, []) in z) st.is in
      subst (Finished v x front) (sym is) (record {
        rests = (refl, refl);
        writes = who;
        complete = own-here s.all x ∙ ap (λ l. l ++ x ∷ []) o.own_is;
        finishes = record {
          before = s.all;
          begins = s.begins;
          mine = o.own_is;
          seen = refl;
          own_is = refl;
          block = refl;
          front = st.front;
          lawful = keeps_law_more law s.all x s.lawful (ap (λ l. law x.writer l x.first x.items) o.own_is ∙ lawful);
          orderly = orderly_more s.all x s.orderly (λ p low high. o.apart (record { first = x.first; count = length x.items }) p block low high)
              (subst (λ l. top 0 l < x.first) (sym o.own_is) (o.above (record { first = x.first; count = length x.items }) block));
          reserve =
              let r = s.space x.writer who in
              let now : u.reserve ≡ get_or st.book.spare x.writer 0 = ap (λ w. reserve_in w (v.reserve - length x.items) st.book.spare) who in
              omega (arith, now, st.spent, r.0);
          read = refl;
          fresh = refl;
        };
        heard = s.heard;
        alone = s.alone;
        right = refl;
        bound = refl;
        writers = are_of_more v.writers s.all x s.writers o.below;
      })

-- a turn in which the book's stores stay
module _ {I : Type 0} where
  pub grown_from : (m m1 m2 : Sat I) (o b : Held I) → m.1 ≡ holding o → m1 ≡ (m.0, (0, None) ∷ []) → m2 ≡ (m1.0, holding b) → Keeps o b → Grown m m2
  grown_from m m1 m2 o b at out back keeps = record {
    old = o;
    new = b;
    hand = at;
    is = back ∙ ap (λ (y : Sat I). let z : Sat I = (y.0, holding b) in z) out;
    keeps = keeps;
  }

  -- the seat, before it leaves
  grown_is : (u : View I) (b : Held I) (m m1 : Sat I) (g : Grown m m1) → m ≡ (u, holding b) → (m1 ≡ (u, holding g.new)) × Keeps b g.new
  grown_is u b m m1 g is = (
    g.is ∙ ap (λ (y : Sat I). let z : Sat I = (y.0, holding g.new) in z) is,
    subst (λ o. Keeps o g.new) (in_hand g.old b (sym g.hand ∙ ap (λ (y : Sat I). y.1) is)) g.keeps,
  )

  grown_leaves : (u : View I) (t : ℕ) (b : Held I) (m m1 : Sat I) (g : Grown m m1) → m ≡ (u, holding b) → u.turn ≡ Has t → StandsFor u.all b → u.spares ≡ b.spare → t + 1 < 2 ^ 64 → (d : Held I) × MayLeave m1 t d
  grown_leaves u t b m m1 g is turn stands spares below =
      let went = grown_is u b m m1 g is in (
        g.new,
        subst (λ y. MayLeave y t g.new) (sym went.0) (record {
          hand = refl;
          turn = turn;
          stands = stands_still u.all b g.new stands went.1;
          count = went.1.lanes ∙ ap length (sym spares);
          spares = λ i. omega (arith, went.1.spare i, ap (λ l. get_or l i 0) spares);
          below = below;
        }),
      )

  pub entered_leaves : (v : View I) (t : ℕ) (m m1 : Sat I) → Entered v t m → Grown m m1 → (d : Held I) × MayLeave m1 t d
  entered_leaves v t m m1 e g = grown_leaves (entering v t e.all e.book.spare) t e.book m m1 g e.is refl e.stands refl e.below

  pub seized_leaves : (law : Law I) (v : View I) (t : ℕ) (m m1 : Sat I) → Seized law v t m → Grown m m1 → (d : Held I) × MayLeave m1 t d
  seized_leaves law v t m m1 e g = grown_leaves (seizing v t e.all e.book.spare) t e.book m m1 g e.is refl e.stands refl e.below

  pub lane_in : (v : View I) (t k : ℕ) (m : Sat I) → Entered v t m → v.who ≡ Pen k → (b : Held I) × (m.1 ≡ holding b) × (k < length b.spare)
  lane_in v t k m e who = (e.book, ap (λ (y : Sat I). y.1) e.is, (e.space k who).1)

  pub seized_book : (law : Law I) (v : View I) (t : ℕ) (m : Sat I) → Seized law v t m → HasBook m
  seized_book law v t m s = (s.book, ap (λ (y : Sat I). y.1) s.is)

  -- what a pen knows after space was made
  pub record Reserved (law : Law I) (v : View I) (k : ℕ) (m : Sat I) : Type 0 where
    pub rests : (m.0.turn ≡ Idle) × (m.1 ≡ [])
    pub writes : m.0.who ≡ Pen k
    pub right : m.0.right ≡ v.right
    pub keeps_space : KeepsSpace v m.0

  pub reserved : (law : Law I) (v : View I) (t k : ℕ) (m m1 m2 : Sat I) → Entered v t m → v.who ≡ Pen k → Grown m m1 → ((b : Held I) → m1.1 ≡ holding b → m2 ≡ (leaving m1.0 b, [])) → Reserved law v k m2
  reserved law v t k m m1 m2 e who g left =
      let went = grown_is (entering v t e.all e.book.spare) e.book m m1 g e.is in
      let u : View I = leaving (entering v t e.all e.book.spare) g.new in
      let is : m2 ≡ (u, []) = left g.new (ap (λ (y : Sat I). y.1) g.is) ∙ ap (λ (y : Sat I). let z : Sat I = (leaving y.0 g.new, []) in z) went.0 in
      subst (Reserved law v k) (sym is) (record {
        rests = (refl, refl);
        writes = who;
        right = refl;
        keeps_space = record {
          reserve =
              let r = e.space k who in
              let now : u.reserve ≡ get_or g.new.spare k 0 = ap (λ w. reserve_in w v.reserve g.new.spare) who in
              omega (arith, now, went.1.spare k, r.0);
          seen = refl;
          own_is = refl;
          block = refl;
          read = refl;
          fresh = refl;
        };
      })

  pub space_left : (v : View I) (t k n : ℕ) (m m1 m2 : Sat I) → Entered v t m → v.who ≡ Pen k → (g : Grown m m1) → ((b : Held I) → m1.1 ≡ holding b → n ≤ get_or b.spare k 0)
      → ((b : Held I) → m1.1 ≡ holding b → m2 ≡ (leaving m1.0 b, [])) → n ≤ m2.0.reserve
  space_left v t k n m m1 m2 e who g space left =
      let at : m1.1 ≡ holding g.new = ap (λ (y : Sat I). y.1) g.is in
      let same : m1.0.who ≡ Pen k = ap (λ (y : Sat I). y.0.who) g.is ∙ ap (λ (y : Sat I). y.0.who) e.is ∙ who in
      let now : m2.0.reserve ≡ get_or g.new.spare k 0 = ap (λ (y : Sat I). y.0.reserve) (left g.new at) ∙ ap (λ w. reserve_in w m1.0.reserve g.new.spare) same in
      omega (arith, now, space g.new at)

  -- what a pass knows after a look
  pub record HasLooked (law : Law I) (v : View I) (m : Sat I) : Type 0 where
    pub rests : (m.0.turn ≡ Idle) × (m.1 ≡ [])
    pub looks : Looks law v m.0

  pub has_looked : (law : Law I) (v : View I) (t : ℕ) (m m1 m2 : Sat I) → Seized law v t m → Grown m m1 → ((b : Held I) → m1.1 ≡ holding b → m2 ≡ (leaving m1.0 b, [])) → HasLooked law v m2
  has_looked law v t m m1 m2 s g left =
      let went = grown_is (seizing v t s.all s.book.spare) s.book m m1 g s.is in
      let is : m2 ≡ (leaving (seizing v t s.all s.book.spare) g.new, []) = left g.new (ap (λ (y : Sat I). y.1) g.is) ∙ ap (λ (y : Sat I). let z : Sat I = (leaving y.0 g.new, []) in z) went.0 in
      subst (HasLooked law v) (sym is) (record {
        rests = (refl, refl);
        looks = record { begins = s.begins; looks = refl; lawful = s.lawful; orderly = s.orderly; fewer = omega arith; writers = s.writers; read = refl; reads = s.reads; right = refl; alone = s.alone };
      })

  -- what a pass knows after a look without a turn
  pub record HasGlanced (law : Law I) (v : View I) (found : ℕ) (m : Sat I) : Type 0 where
    pub rests : (m.0.turn ≡ Idle) × (m.1 ≡ [])
    pub looks : Looks law v m.0
    pub count : found ≡ length m.0.seen

  pub has_glanced : (law : Law I) (m : Sat I) (found : ℕ) (m' : Sat I) → (m.0.turn ≡ Idle) × (m.1 ≡ []) → (all : List (Stored I)) × (m' ≡ (glancing m.0 all, m.1)) × Glanced law m.0 found all
      → HasGlanced law m.0 found m'
  has_glanced law m found m' rests told =
      let s = told.2 in
      subst (HasGlanced law m.0 found) (sym told.1) (record {
        rests = rests;
        looks = record { begins = s.begins; looks = refl; lawful = s.lawful; orderly = s.orderly; read = refl; fewer = omega arith; writers = s.writers; reads = s.reads; right = refl; alone = s.alone };
        count = s.count;
      })

  -- the items up to the front
  pub shows : (law : Law I) (v : View I) (t : ℕ) (m m1 m2 : Sat I) → Seized law v t m → Grown m m1 → ((b : Held I) → m1.1 ≡ holding b → m2 ≡ (leaving m1.0 b, []))
      → {E : Type 0} (r : Result (Taken I) E) → IfOk r (λ p. (b : Held I) → m.1 ≡ holding b → IsUpTo b.history b.front p) → IfOk r (λ p. Shows m2.0.seen p)
  shows law v t m m1 m2 s g left r told =
      let went = grown_is (seizing v t s.all s.book.spare) s.book m m1 g s.is in
      let is : m2.0.seen ≡ s.all = ap (λ (y : Sat I). y.0.seen) (left g.new (ap (λ (y : Sat I). y.1) g.is)) ∙ ap (λ (y : Sat I). y.0.seen) went.0 in
      IfOk-weaker r (λ p. (b : Held I) → m.1 ≡ holding b → IsUpTo b.history b.front p) (λ p. Shows m2.0.seen p)
      (λ p up. subst (λ l. Shows l p) (sym is) (record {
        front = s.book.front;
        is = s.stands.front;
        parts = subst (λ h. IsUpTo h s.book.front p) s.stands.history (up s.book (ap (λ (y : Sat I). y.1) s.is));
      })) told

  -- the space that was made
  pub spaced : (v : View I) (t k n : ℕ) (m m1 m2 : Sat I) → Entered v t m → v.who ≡ Pen k → Grown m m1 → ((b : Held I) → m1.1 ≡ holding b → m2 ≡ (leaving m1.0 b, []))
      → {T E : Type 0} (r : Result T E) → OnOk r ((b : Held I) → m1.1 ≡ holding b → n ≤ get_or b.spare k 0) → OnOk r (n ≤ m2.0.reserve)
  spaced v t k n m m1 m2 e who g left r space = on_ok_weaker r (λ all. space_left v t k n m m1 m2 e who g all left) space

  -- ---- how many stores a seat has seen

  pub counted_store : (v : View I) (x : Stored I) (f : ℕ) (m : Sat I) → Stores v x f m → (h : List (Stored I)) (n : ℕ) → h ≡ v.all → n ≡ length (h ++ x ∷ []) → n ≡ length m.0.seen
  counted_store v x f m st h n was is = is ∙ (ap (λ l. length (l ++ x ∷ [])) was ∙ sym (ap (λ (y : Sat I). length y.0.seen) st.is))

  pub counted_left : (v : View I) (x : Stored I) (f n : ℕ) (m m' : Sat I) → Stores v x f m → ((b : Held I) → m.1 ≡ holding b → m' ≡ (leaving m.0 b, [])) → n ≡ length m.0.seen → n ≡ length m'.0.seen
  counted_left v x f n m m' st left is = is ∙ sym (ap (λ (y : Sat I). length y.0.seen) (left st.book (ap (λ (y : Sat I). y.1) st.is)))

  pub counted_look : (n : ℕ) (m m1 m2 : Sat I) → Grown m m1 → ((b : Held I) → m1.1 ≡ holding b → m2 ≡ (leaving m1.0 b, [])) → n ≡ length m.0.seen → n ≡ length m2.0.seen
  counted_look n m m1 m2 g left is = is ∙ sym (ap (λ (y : Sat I). length y.0.seen) (left g.new (ap (λ (y : Sat I). y.1) g.is)) ∙ ap (λ (y : Sat I). length y.0.seen) g.is)

  -- a book that stays as it is
  pub kept_book : (law : Law I) (v : View I) (t : ℕ) (m : Sat I) → Seized law v t m → Grown m m
  kept_book law v t m s = record {
    old = s.book;
    new = s.book;
    hand = ap (λ (y : Sat I). y.1) s.is;
    is = s.is ∙ sym (ap (λ (y : Sat I). let z : Sat I = (y.0, holding s.book) in z) s.is);
    keeps = record { history = refl; front = refl; lanes = refl; spare = λ lane. omega arith };
  }
