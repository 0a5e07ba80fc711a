-- The steps that change what the table stands for: a draw, a store, the end of a turn, and a new pen.
use Rattle.std.proofs.Common.{◌≡◌, ◌≢◌, ℕ, ◌+◌, ◌-◌, ◌%◌, ◌^◌, ◌<◌, ◌≤◌, true, false, List, [], ◌∷◌, ◌++◌, Some, None, length, get_or, set, length-set, length-append, append-nil, refl, sym, ap, ◌∙◌, subst, inl, inr, true≢false, arith, mod-eq_of_lt}
use Rattle.std.proofs.lemmas.Bool.{cases_Bool, cases_eq}
use mathlib.Core.Option as maybe
use Rattle.atomic_table.specs.Table.{step, keeps, gives}
use Rattle.mx_core.specs.Limits.{most_drawn, most_held}
use Rattle.mx_core.specs.declared.history.Stored.{Stored}
use Rattle.mx_core.specs.History.{is_stored, Law}
use Rattle.mx_core.specs.State.{State, count_of, drawn, stored}
use Rattle.mx_core.proofs.Blocks.{block_at-here, block_at-else}
use Rattle.mx_core.proofs.Histories.{begins_more, begins_self}
use Rattle.mx_core.proofs.Owns.{own-here, own-else, keeps_law_more}
use Rattle.mx_core.proofs.Reached.{reached_drawn, reached_stored, stored_in, reached_length}
use Rattle.mx_lanes.specs.Held.{Held, StandsFor}
use Rattle.mx_lanes.proofs.Stands.{next_one}
use Rattle.mx_front.specs.declared.board.Key.{Key}
use Rattle.mx_front.specs.declared.view.Role.{Role}
use Rattle.mx_front.specs.declared.view.Role.TheVariants.{Reader, Maker, Pen}
use Rattle.mx_front.specs.declared.view.Turn.TheVariants.{Has}
use Rattle.mx_front.specs.declared.view.View.{View}
use Rattle.mx_front.specs.Queue.{Line}
use Rattle.mx_front.specs.World.{Slot, Core, World, Stocked, Good, InTurn, Queued, PenOf, Plays, Knows}
use Rattle.mx_front.specs.Told.{block_at, can_store, drawing, drew, storing, put, reserve_in, leaving, left}
use Rattle.mx_front.proofs.Worlds.{change, change_here, change_else, passing, stored_own, length_own}
use Rattle.mx_front.proofs.Rights.{holds_all, holds_else, holds_on}
use Rattle.mx_front.proofs.Goes.{Goes, space_after, changed_others, left_others, pen_is, turn_is, plays_on, few_drawn}

-- the book in hand
module _ {I : Type 0} where
  abbrev hand_of : Held I → List (ℕ × Slot I) → Held I
  hand_of e [] = e
  hand_of e ((i, None) ∷ c) = e
  hand_of e ((i, Some d) ∷ c) = d

  pub in_hand : (b d : Held I) → ◌≡◌ {A = List (ℕ × Slot I)} ((0, Some b) ∷ []) ((0, Some d) ∷ []) → b ≡ d
  in_hand b d e = ap (hand_of b) e

-- another seat's pen is another pen
module _ {I : Type 0} (key : Key) where
  other_pen : (w : Core I) (j id k i : ℕ) → j ≢ id → w.pen_of i ≡ id → w.pen_of k ≡ j → k ≢ i
  other_pen w j id k i ne is at same = ne (sym at ∙ ap w.pen_of same ∙ is)

  -- the space that is set apart, after a turn
  space_else : (w : Core I) (id : ℕ) (v : View I) (spares : List ℕ) (k : ℕ) → ((i : ℕ) → PenOf key w id v.own v.block v.reserve v.read v.fresh i → k ≢ i)
      → (who : Role) → Plays key w id v.own v.block v.reserve v.read v.fresh who → space_after who w.space spares k ≡ w.space k
  space_else w id v spares k other Reader p = refl
  space_else w id v spares k other (Maker i) p = refl
  space_else w id v spares k other (Pen i) p = change_else w.space i (get_or spares i 0) k (other i p)

  space_within : (w : Core I) (spares : List ℕ) → ((k : ℕ) → w.space k ≤ get_or spares k 0) → (who : Role) (k : ℕ) → space_after who w.space spares k ≤ get_or spares k 0
  space_within w spares all Reader k = all k
  space_within w spares all (Maker i) k = all k
  space_within w spares all (Pen i) k = elim (cases_eq k i) [
    | inl same ↦
        let is : change w.space i (get_or spares i 0) k ≡ get_or spares i 0 = change_here w.space i (get_or spares i 0) k same in
        let at : get_or spares k 0 ≡ get_or spares i 0 = ap (λ n. get_or spares n 0) same in
        omega arith
    | inr other ↦ let is : change w.space i (get_or spares i 0) k ≡ w.space k = change_else w.space i (get_or spares i 0) k other in omega (arith, all k)
  ]

  left_plays : (w : Core I) (id : ℕ) (v : View I) (spares : List ℕ) → ((k : ℕ) → w.space k ≤ get_or spares k 0) → (who : Role) → Plays key w id v.own v.block v.reserve v.read v.fresh who
      → Plays key (record w { space = space_after who w.space spares }) id v.own v.block (reserve_in who v.reserve spares) v.read v.fresh who
  left_plays w id v spares all Reader p = tt
  left_plays w id v spares all (Maker i) p = p
  left_plays w id v spares all (Pen i) p = record {
    made = p.made;
    seat = p.seat;
    own_is = p.own_is;
    block = p.block;
    space = change_here w.space i (get_or spares i 0) i refl;
    within = omega (arith, p.within, p.space, all i);
    value = p.value;
  }

module _ {I : Type 0} (law : Law I) (key : Key) where
  -- a block is drawn
  pub draws : (slots n pk : ℕ) (w : World I) (id : ℕ) (v : View I) (c : List (ℕ × Slot I)) → v.who ≡ Pen pk → v.block ≡ None → v.fresh ≡ true → v.read < key.stop → 0 < n → n ≤ most_drawn → n ≤ v.reserve
      → Good law key w → Knows key w id v
      → Goes law key w id c 2 ((w.core.state.next + n) % 2 ^ 64) (drew (step slots 2 n 0 maybe.none) (v, c) w.core.state.next)
  draws slots n pk w id v c who free fresh below pos small space good k =
      let p = pen_is key w.core id v pk k.core who in
      let s = w.core.state in
      let kept = good.kept in
      let bound : s.next ≤ key.stop + most_held = few_drawn law key s w.core.over kept in
      let inside : pk < length s.held = omega (arith, p.made, good.most, kept.writers) in
      let not : w.core.over pk ≡ false = elim (cases_Bool (w.core.over pk)) [ inl is ↦ absurd (omega (arith, p.value fresh is, below)) | inr not ↦ not ] in
      let next = passing w.core.over key.stop pk s.next n (omega (arith, p.made, good.most, kept.few)) small not kept.bound kept.over_is in
      let u : View I = drawing v s.next n in
      let held' = set s.held pk (block_at (s.next + 1) n) in record {
        to = record w { core = record w.core { state = drawn s pk n; over = next.now } };
        view = u;
        act = keeps;
        valid = tt;
        good = record {
          ordered = good.ordered;
          ready = good.ready;
          kept = record {
            reached = reached_drawn s pk n kept.reached inside pos (p.block ∙ free) (omega (arith, bound, small, kept.small, kept.limit));
            limit = kept.limit;
            writers = length-set s.held pk (block_at (s.next + 1) n) ∙ kept.writers;
            few = kept.few;
            small = kept.small;
            bound = next.bound;
            over_is = next.is;
            blocks = λ i. elim (cases_eq i pk) [
              | inl same ↦
                  let is : get_or held' i None ≡ block_at (s.next + 1) n = ap (λ j. get_or held' j None) same ∙ block_at-here s.held pk (block_at (s.next + 1) n) inside in
                  omega (arith, ap count_of is, small)
              | inr other ↦ omega (arith, ap count_of (block_at-else s.held pk i (block_at (s.next + 1) n) other), kept.blocks i)
            ];
            lawful = kept.lawful;
          };
          most = good.most;
          unmade = λ i le.
              let m = good.unmade i le in
              let other : i ≢ pk = λ e. omega (arith, p.made, le, e) in record {
                stores = m.stores;
                block = block_at-else s.held pk i (block_at (s.next + 1) n) other ∙ m.block;
                over = next.others i other ∙ m.over;
                space = m.space;
              };
          stocked = good.stocked;
        };
        mine = record {
          core = record {
            bound = k.core.bound;
            sees = k.core.sees;
            hears = k.core.hears;
            reads = omega arith;
            plays = subst (Plays key (record w.core { state = drawn s pk n; over = next.now }) id u.own u.block u.reserve u.read u.fresh) (sym who) (record {
              made = p.made;
              seat = p.seat;
              own_is = p.own_is;
              block = block_at-here s.held pk (block_at (s.next + 1) n) inside;
              space = p.space;
              within = space;
              value = λ f o. absurd (true≢false (sym f));
            });
            holds = holds_on w.core (record w.core { state = drawn s pk n; over = next.now }) id v.seen v.right refl refl k.core.holds;
          };
          queued = k.queued;
        };
        others = λ j x ne q. record {
          core = record {
            bound = q.core.bound;
            sees = q.core.sees;
            hears = q.core.hears;
            reads = omega (arith, q.core.reads);
            plays = plays_on key w.core (record w.core { state = drawn s pk n; over = next.now }) j x x refl refl
                (λ i o. let other : i ≢ pk = other_pen key w.core j id i pk ne p.seat o.seat in record {
                  made = o.made;
                  seat = o.seat;
                  own_is = o.own_is;
                  block = block_at-else s.held pk i (block_at (s.next + 1) n) other ∙ o.block;
                  space = o.space;
                  within = o.within;
                  value = λ f e. o.value f (sym (next.others i other) ∙ e);
                }) x.who q.core.plays;
            holds = holds_on w.core (record w.core { state = drawn s pk n; over = next.now }) j x.seen x.right refl refl q.core.holds;
          };
          queued = q.queued;
        };
        words = ap (λ m. w.line.ticket ∷ w.line.serving ∷ m ∷ length s.history ∷ []) (mod-eq_of_lt (omega (arith, bound, small, kept.small)));
        homes = refl;
        grows = begins_self s.history;
        tells = (
          refl,
          k.core.reads,
          omega (arith, bound, small, kept.small),
          record {
            stores = omega (arith, ap length p.own_is, length_own s.history pk, reached_length s kept.reached);
            positions = λ at e. (stored_in s kept.reached at (stored_own s.history pk at (ap (λ l. is_stored l at) (sym p.own_is) ∙ e))).1;
          },
        );
      }

  -- with the turn, one store more
  pub puts : (slots t n : ℕ) (w : World I) (id : ℕ) (v : View I) (x : Stored I) (b : Held I) → v.turn ≡ Has t → v.who ≡ Pen x.writer → can_store v.right ≡ true
      → v.block ≡ block_at x.first (length x.items) → law x.writer v.own x.first x.items ≡ true → StandsFor (v.all ++ x ∷ []) b → n ≡ length v.all + 1
      → length b.spare ≡ length v.spares → get_or b.spare x.writer 0 + length x.items ≡ get_or v.spares x.writer 0 → ((i : ℕ) → i ≢ x.writer → get_or b.spare i 0 ≡ get_or v.spares i 0)
      → Good law key w → Knows key w id v
      → Goes law key w id ((0, Some b) ∷ []) 3 n (put (step slots 3 n 0 maybe.none) (v, (0, Some b) ∷ []) n)
  puts slots t n w id v x b turn who right block lawful stands count lanes spent others good k =
      let pk : ℕ = x.writer in
      let p = pen_is key w.core id v pk k.core who in
      let q : InTurn key.writers w.line w.core.state.history w.core.space id v.all v.spares t = turn_is key w id v (Has t) k turn in
      let s = w.core.state in
      let kept = good.kept in
      let inside : pk < length s.held = omega (arith, p.made, good.most, kept.writers) in
      let held' = set s.held pk None in
      let s' : State I = stored s pk x.first x.items in
      let space' = change w.core.space pk (v.reserve - length x.items) in
      let to : Core I = record w.core { state = s'; space = space' } in
      let u : View I = storing v x b in
      let served : w.line.ticket_of w.line.serving ≡ id = ap w.line.ticket_of (sym q.queue.turn) ∙ q.queue.mine in
      let more : v.all ++ x ∷ [] ≡ s.history ++ x ∷ [] = ap (λ l. l ++ x ∷ []) q.whole in
      let fits : length x.items ≤ v.reserve = omega (arith, p.within, ap count_of block) in record {
        to = record w { core = to };
        view = u;
        act = keeps;
        valid = tt;
        good = record {
          ordered = good.ordered;
          ready = good.ready;
          kept = record {
            reached = reached_stored s pk (record { first = x.first; count = length x.items }) x.items kept.reached inside (p.block ∙ block) refl;
            limit = kept.limit;
            writers = length-set s.held pk None ∙ kept.writers;
            few = kept.few;
            small = kept.small;
            bound = kept.bound;
            over_is = kept.over_is;
            blocks = λ i. elim (cases_eq i pk) [
              | inl same ↦
                  let is : get_or held' i None ≡ None = ap (λ j. get_or held' j None) same ∙ block_at-here s.held pk None inside in
                  omega (arith, ap count_of is)
              | inr other ↦ omega (arith, ap count_of (block_at-else s.held pk i None other), kept.blocks i)
            ];
            lawful = keeps_law_more law s.history x kept.lawful (ap (λ l. law x.writer l x.first x.items) (sym p.own_is) ∙ lawful);
          };
          most = good.most;
          unmade = λ i le.
              let m = good.unmade i le in
              let other : i ≢ pk = λ e. omega (arith, p.made, le, e) in record {
                stores = own-else s.history x i (λ e. other (sym e)) ∙ m.stores;
                block = block_at-else s.held pk i None other ∙ m.block;
                over = m.over;
                space = change_else w.core.space pk (v.reserve - length x.items) i other ∙ m.space;
              };
          stocked = subst (Stocked key.writers s'.history space') (sym q.queue.out) tt;
        };
        mine = record {
          core = record {
            bound = k.core.bound;
            sees = ([], sym more ∙ sym (append-nil (v.all ++ x ∷ [])));
            hears = begins_more v.heard s.history (x ∷ []) k.core.hears;
            reads = k.core.reads;
            plays = subst (Plays key to id u.own u.block u.reserve u.read u.fresh) (sym who) (record {
              made = p.made;
              seat = p.seat;
              own_is = ap (λ l. l ++ x ∷ []) p.own_is ∙ sym (own-here s.history x);
              block = block_at-here s.held pk None inside;
              space = change_here w.core.space pk (v.reserve - length x.items) pk refl;
              within = omega arith;
              value = p.value;
            });
            holds = holds_all w.core to id v.seen (v.all ++ x ∷ []) v.right refl more k.core.holds;
          };
          queued = subst (Queued key.writers w.line s'.history space' id u.all u.spares) (sym turn) (record {
            queue = q.queue;
            whole = more;
            spaces = λ i. elim (cases_eq i pk) [
              | inl same ↦
                  let is : space' i ≡ v.reserve - length x.items = change_here w.core.space pk (v.reserve - length x.items) i same in
                  let at : get_or b.spare i 0 ≡ get_or b.spare pk 0 = ap (λ j. get_or b.spare j 0) same in
                  omega (arith, is, at, spent, q.spaces pk, p.space, fits)
              | inr other ↦
                  let is : space' i ≡ w.core.space i = change_else w.core.space pk (v.reserve - length x.items) i other in
                  omega (arith, is, others i other, q.spaces i)
            ];
            count = lanes ∙ q.count;
          });
        };
        others = λ j y ne o. record {
          core = record {
            bound = o.core.bound;
            sees = begins_more y.seen s.history (x ∷ []) o.core.sees;
            hears = begins_more y.heard s.history (x ∷ []) o.core.hears;
            reads = o.core.reads;
            plays = plays_on key w.core to j y y refl refl
                (λ i r. let other : i ≢ pk = other_pen key w.core j id i pk ne p.seat r.seat in record {
                  made = r.made;
                  seat = r.seat;
                  own_is = r.own_is ∙ sym (own-else s.history x i (λ e. other (sym e)));
                  block = block_at-else s.held pk i None other ∙ r.block;
                  space = change_else w.core.space pk (v.reserve - length x.items) i other ∙ r.space;
                  within = r.within;
                  value = r.value;
                }) y.who o.core.plays;
            holds = holds_else w.core to id j v.seen y.seen v.right y.right ne right refl k.core.holds o.core.holds;
          };
          queued = changed_others key.writers w.line s.history s'.history w.core.space space' j id y.all y.spares y.turn ne served o.queued;
        };
        words = ap (λ m. w.line.ticket ∷ w.line.serving ∷ s.next ∷ m ∷ []) (count ∙ omega (arith, ap length q.whole, length-append s.history (x ∷ [])));
        homes = refl;
        grows = (x ∷ [], refl);
        tells = λ y d hand at stood. λ i. (storing v (next_one v.all x y b stands (subst (StandsFor (v.all ++ y ∷ [])) (sym (in_hand b d hand)) stood) i) (in_hand b d hand i), (0, Some b) ∷ []);
      }

  -- the turn is over
  pub leaves : (slots t : ℕ) (w : World I) (id : ℕ) (v : View I) (b : Held I) → v.turn ≡ Has t → StandsFor v.all b → length b.spare ≡ length v.spares
      → ((i : ℕ) → get_or v.spares i 0 ≤ get_or b.spare i 0) → Good law key w → Knows key w id v
      → Goes law key w id ((0, Some b) ∷ []) 1 (t + 1) (left (step slots 1 (t + 1) 0 maybe.none) (v, (0, Some b) ∷ []) (t + 1))
  leaves slots t w id v b turn stands lanes spares good k =
      let q : InTurn key.writers w.line w.core.state.history w.core.space id v.all v.spares t = turn_is key w id v (Has t) k turn in
      let h = w.core.state.history in
      let served : w.line.ticket_of w.line.serving ≡ id = ap w.line.ticket_of (sym q.queue.turn) ∙ q.queue.mine in
      let spaces : (i : ℕ) → w.core.space i ≤ get_or b.spare i 0 = λ i. omega (arith, q.spaces i, spares i) in
      let space' = space_after v.who w.core.space b.spare in
      let to : Core I = record w.core { space = space' } in
      let l : Line (Held I) = record w.line { serving = t + 1; slot = maybe.some (Some b) } in record {
        to = record { line = l; core = to };
        view = leaving v b;
        act = gives;
        valid = tt;
        good = record {
          ordered = omega (arith, q.queue.below);
          ready = λ e. tt;
          kept = good.kept;
          most = good.most;
          unmade = λ i le. let m = good.unmade i le in record {
            stores = m.stores;
            block = m.block;
            over = m.over;
            space = space_else key w.core id v b.spare i (λ pk p e. omega (arith, p.made, le, e)) v.who k.core.plays ∙ m.space;
          };
          stocked = record {
            stands = subst (λ g. StandsFor g b) q.whole stands;
            spaces = space_within key w.core b.spare spaces v.who;
            count = lanes ∙ q.count;
          };
        };
        mine = record {
          core = record { bound = k.core.bound; sees = k.core.sees; hears = k.core.hears; reads = k.core.reads; plays = left_plays key w.core id v b.spare spaces v.who k.core.plays; holds = holds_on w.core to id v.seen v.right refl refl k.core.holds };
          queued = tt;
        };
        others = λ j y ne o. record {
          core = record {
            bound = o.core.bound;
            sees = o.core.sees;
            hears = o.core.hears;
            reads = o.core.reads;
            plays = plays_on key w.core to j y y refl refl
                (λ i r. record {
                  made = r.made;
                  seat = r.seat;
                  own_is = r.own_is;
                  block = r.block;
                  space = space_else key w.core id v b.spare i (λ pk p. other_pen key w.core j id i pk ne p.seat r.seat) v.who k.core.plays ∙ r.space;
                  within = r.within;
                  value = r.value;
                }) y.who o.core.plays;
            holds = holds_on w.core to j y.seen y.right refl refl o.core.holds;
          };
          queued = left_others key.writers w.line h w.core.space space' j id t b y.all y.spares y.turn ne served q.queue.turn o.queued;
        };
        words = refl;
        homes = refl;
        grows = begins_self h;
        tells = λ d hand. λ i. (leaving v (in_hand b d hand i), []);
      }
