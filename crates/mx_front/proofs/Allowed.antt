-- What the table asks of each step, and of its start.
use Rattle.std.proofs.Common.{◌≡◌, ◌≢◌, ℕ, zero, suc, ◌+◌, ◌%◌, ◌^◌, ◌<◌, ◌≤◌, ◌⊎◌, true, false, eqb, List, [], ◌∷◌, ◌++◌, Option, Some, None, length, get_or, set, length-set, refl, sym, ap, ◌∙◌, subst, ⊎_elim, inl, inr, true≢false, arith}
use Rattle.std.proofs.lemmas.List.{length-replicate}
use mathlib.Core.Option as maybe
use mathlib.Core.Option.{some-ne-none, some-injective}
use lib.ListN.{get_elem?}
use prog.Atomic.{either}
use Rattle.atomic_table.specs.Table.{step, Allows, Splits, Joins, Valid, homes_after, carried_after, opening}
use Rattle.atomic_table.proofs.Lists.{at_set, set_else}
use Rattle.mx_core.specs.declared.history.Stored.{Stored}
use Rattle.mx_core.specs.declared.machine.Block.{Block}
use Rattle.mx_core.specs.Front.{IsFront}
use Rattle.mx_core.specs.History.{Law, Begins}
use Rattle.mx_core.specs.Limits.{most_writers, most_drawn, last_stop}
use Rattle.mx_core.specs.Runs.{IsReached}
use Rattle.mx_core.specs.State.{State, start, block_of, count_of, free_to}
use Rattle.mx_core.proofs.Blocks.{block_at-start}
use Rattle.mx_core.proofs.Histories.{front_below, begins_self, begins_trans}
use Rattle.mx_core.proofs.Reached.{reached_start, reached_front, reached_writers, covers_no_unfinished_write}
use Rattle.mx_lanes.specs.Held.{Held, StandsFor, empty}
use Rattle.mx_lanes.proofs.Stands.{stands_empty}
use Rattle.mx_front.specs.declared.board.Key.{Key}
use Rattle.mx_front.specs.declared.view.Right.{Right}
use Rattle.mx_front.specs.declared.view.Right.TheVariants.{Nothing}
use Rattle.mx_front.specs.declared.view.Role.{Role}
use Rattle.mx_front.specs.declared.view.Role.TheVariants.{Reader, Maker, Pen}
use Rattle.mx_front.specs.declared.view.Turn.TheVariants.{Has}
use Rattle.mx_front.specs.declared.view.View.{View}
use Rattle.mx_front.specs.World.{Slot, Core, World, words_of, Good, Holds, PenOf, Plays, Knows, Ruled, opening_view}
use Rattle.mx_front.specs.Told.{Sat, block_at, can_store, claimed, came, looked, glanced, read_next, drew, put, left, learned, maker_after, pen_after, next_maker, new_pen, reader_of, shared, sharing, sharer_of, lending, lent, both, borrowing, hearing, spent}
use Rattle.mx_front.proofs.Worlds.{change, change_here, change_else, begins_longer, begins_shorter}
use Rattle.mx_front.specs.Laws.{SeesOneHistory, Grows, StepsGrow}
use Rattle.mx_front.proofs.Rights.{alone_after, alone_at, alone_sees, given, holds_joined, holds_lent, holds_on, holds_other, holds_shared, none_else}
use Rattle.mx_front.proofs.Goes.{Goes, pen_is, few_drawn, plays_on, claims, comes, looks, glances, reads, learns}
use Rattle.mx_front.proofs.Moves.{draws, puts, leaves}

-- the seat after the last
at_snoc : {A : Type 0} (l : List A) (a b : A) (j : ℕ) → get_elem? (l ++ a ∷ []) j ≡ maybe.some b → (get_elem? l j ≡ maybe.some b) ⊎ ((j ≡ length l) × (a ≡ b))
at_snoc [] a b zero e = inr (refl, some-injective a b e)
at_snoc [] a b (suc j) e = absurd (some-ne-none b (sym e))
at_snoc (x ∷ l) a b zero e = inl e
at_snoc (x ∷ l) a b (suc j) e = elim (at_snoc l a b j e) [ inl before ↦ inl before | inr last ↦ inr (ap suc last.0, last.1) ]

view_all : {V : Type 0} (P : ℕ → V → Type 0) (vs : List V) (id : ℕ) (w : V) → P id w → ((j : ℕ) (x : V) → j ≢ id → get_elem? vs j ≡ maybe.some x → P j x)
    → (j : ℕ) (x : V) → get_elem? (set vs id w) j ≡ maybe.some x → P j x
view_all {V} P vs id w mine others j x e = ⊎_elim (λ (t : (j ≡ id) × (w ≡ x)). subst (λ (z : ℕ × V). P z.0 z.1) (λ i. (sym t.0 i, t.1 i)) mine)
    (λ (t : (j ≢ id) × (get_elem? vs j ≡ maybe.some x)). others j x t.0 t.1) (at_set vs id j w x e)

-- the world at the start
abbrev opening_world : {I : Type 0} → Key → World I
opening_world key = record {
  line = record { ticket = 0; serving = 0; slot = maybe.some (Some (empty key.writers)); ticket_of = λ t. 0 };
  core = record { state = start key.writers (2 ^ 48); pen_of = λ k. 0; maker = 0; made = 0; over = λ k. false; space = λ k. 0; alone = Some 0 };
}

-- the world in which another seat alone may store
abbrev with_alone : {I : Type 0} → World I → Option ℕ → World I
with_alone w o = record w { core = record w.core { alone = o } }

module _ {I : Type 0} (law : Law I) (key : Key) where
  same_pen : (w : World I) (o : Option ℕ) (j : ℕ) (x : View I) (i : ℕ) → PenOf key w.core j x.own x.block x.reserve x.read x.fresh i → PenOf key (record w.core { alone = o }) j x.own x.block x.reserve x.read x.fresh i
  same_pen w o j x i p = record { made = p.made; seat = p.seat; own_is = p.own_is; block = p.block; space = p.space; within = p.within; value = p.value }

  allowed : (slots id : ℕ) (v : View I) (c : List (ℕ × Slot I)) (i : ℕ) (f : ℕ → ℕ) (told : ℕ → Sat I → Type 0)
      → ((w : World I) → Good law key w → Knows key w id v → Goes law key w id c i (f (get_or (words_of w) i 0)) (told (get_or (words_of w) i 0)))
      → Grows law key slots id (v, c) i f told
  allowed slots id v c i f told go h s from deep at fits =
      let r = from.ruled in
      let g = go r.world r.good (r.knows id v at) in (
        g.view,
        g.act,
        subst (λ hs. Valid hs c g.act) (sym r.homes) g.valid,
        record {
          ruled = record {
            world = g.to;
            words = ap (λ ws. set ws i (f (get_or ws i 0))) r.words ∙ g.words;
            homes = ap (λ hs. homes_after hs c g.act) r.homes ∙ g.homes;
            good = g.good;
            knows = view_all (Knows key g.to) s.views id g.view g.mine (λ j x ne e. g.others j x ne (r.knows j x e));
          };
          grows = begins_trans h r.world.core.state.history g.to.core.state.history from.grows g.grows;
        },
        subst (λ ws. told (get_or ws i 0) (g.view, carried_after c g.act)) (sym r.words) g.tells,
      )

  pub claims_grow : (slots id old : ℕ) (m : Sat I) → Grows law key slots id m 0 (λ n. either (eqb n old) (old + 1) n) (claimed (step slots 0 old (old + 1) maybe.none) m)
  claims_grow slots id old m = allowed slots id m.0 m.1 0 (λ n. either (eqb n old) (old + 1) n) (claimed (step slots 0 old (old + 1) maybe.none) m) (λ w. claims law key slots w id old m.0 m.1)

  pub comes_grow : (slots id : ℕ) (m : Sat I) → Grows law key slots id m 1 (λ n. n) (came (step slots 1 0 0 maybe.none) m)
  comes_grow slots id m = allowed slots id m.0 m.1 1 (λ n. n) (came (step slots 1 0 0 maybe.none) m) (λ w. comes law key slots w id m.0 m.1)

  pub looks_grow : (slots id t : ℕ) (m : Sat I) → m.0.turn ≡ Has t → Grows law key slots id m 3 (λ n. n) (looked law (step slots 3 0 0 maybe.none) m)
  looks_grow slots id t m is = allowed slots id m.0 m.1 3 (λ n. n) (looked law (step slots 3 0 0 maybe.none) m) (λ w. looks law key slots t w id m.0 m.1 is)

  pub glances_grow : (slots id : ℕ) (m : Sat I) → Grows law key slots id m 3 (λ n. n) (glanced law (step slots 3 0 0 maybe.none) m)
  glances_grow slots id m = allowed slots id m.0 m.1 3 (λ n. n) (glanced law (step slots 3 0 0 maybe.none) m) (λ w. glances law key slots w id m.0 m.1)

  pub reads_grow : (slots id : ℕ) (m : Sat I) → Grows law key slots id m 2 (λ n. n) (read_next (step slots 2 0 0 maybe.none) m)
  reads_grow slots id m = allowed slots id m.0 m.1 2 (λ n. n) (read_next (step slots 2 0 0 maybe.none) m) (λ w. reads law key slots w id m.0 m.1)

  pub learns_grow : (slots id : ℕ) (m : Sat I) → Grows law key slots id m 0 (λ n. n) (learned law (step slots 0 0 0 maybe.none) m)
  learns_grow slots id m = allowed slots id m.0 m.1 0 (λ n. n) (learned law (step slots 0 0 0 maybe.none) m) (λ w. learns law key slots w id m.0 m.1)

  pub draws_grow : (slots id n pk : ℕ) (m : Sat I) → m.0.who ≡ Pen pk → m.0.block ≡ None → m.0.fresh ≡ true → m.0.read < key.stop → 0 < n → n ≤ most_drawn → n ≤ m.0.reserve
      → Grows law key slots id m 2 (λ x. (x + n) % 2 ^ 64) (drew (step slots 2 n 0 maybe.none) m)
  draws_grow slots id n pk m who free fresh below pos small space =
      allowed slots id m.0 m.1 2 (λ x. (x + n) % 2 ^ 64) (drew (step slots 2 n 0 maybe.none) m) (λ w. draws law key slots n pk w id m.0 m.1 who free fresh below pos small space)

  pub puts_grow : (slots id t n : ℕ) (m : Sat I) (x : Stored I) (b : Held I) → m.1 ≡ (0, Some b) ∷ [] → m.0.turn ≡ Has t → m.0.who ≡ Pen x.writer → can_store m.0.right ≡ true
      → m.0.block ≡ block_at x.first (length x.items) → law x.writer m.0.own x.first x.items ≡ true → StandsFor (m.0.all ++ x ∷ []) b → n ≡ length m.0.all + 1
      → length b.spare ≡ length m.0.spares → get_or b.spare x.writer 0 + length x.items ≡ get_or m.0.spares x.writer 0 → ((i : ℕ) → i ≢ x.writer → get_or b.spare i 0 ≡ get_or m.0.spares i 0)
      → Grows law key slots id m 3 (λ _. n) (λ _. put (step slots 3 n 0 maybe.none) m n)
  puts_grow slots id t n m x b hand turn who right block lawful stands count lanes spent others =
      subst (λ c. Grows law key slots id (m.0, c) 3 (λ _. n) (λ _. put (step slots 3 n 0 maybe.none) (m.0, c) n)) (sym hand)
      (allowed slots id m.0 ((0, Some b) ∷ []) 3 (λ _. n) (λ _. put (step slots 3 n 0 maybe.none) (m.0, (0, Some b) ∷ []) n)
      (λ w. puts law key slots t n w id m.0 x b turn who right block lawful stands count lanes spent others))

  pub leaves_grow : (slots id t : ℕ) (m : Sat I) (b : Held I) → m.1 ≡ (0, Some b) ∷ [] → m.0.turn ≡ Has t → StandsFor m.0.all b → length b.spare ≡ length m.0.spares
      → ((i : ℕ) → get_or m.0.spares i 0 ≤ get_or b.spare i 0)
      → Grows law key slots id m 1 (λ _. t + 1) (λ _. left (step slots 1 (t + 1) 0 maybe.none) m (t + 1))
  leaves_grow slots id t m b hand turn stands lanes spares =
      subst (λ c. Grows law key slots id (m.0, c) 1 (λ _. t + 1) (λ _. left (step slots 1 (t + 1) 0 maybe.none) (m.0, c) (t + 1))) (sym hand)
      (allowed slots id m.0 ((0, Some b) ∷ []) 1 (λ _. t + 1) (λ _. left (step slots 1 (t + 1) 0 maybe.none) (m.0, (0, Some b) ∷ []) (t + 1))
      (λ w. leaves law key slots t w id m.0 b turn stands lanes spares))

  -- a step of which the history grows is allowed
  step_of : (slots id : ℕ) (m : Sat I) (i : ℕ) (f : ℕ → ℕ) (told : ℕ → Sat I → Type 0) → Grows law key slots id m i f told → Allows (Ruled law key) slots id m i f told
  step_of slots id m i f told grows s r deep at fits =
      let h = r.world.core.state.history in
      let next = grows h s (record { ruled = r; grows = begins_self h }) deep at fits in
      (next.0, next.1, next.2, next.3.ruled, next.4)

  pub claims_at : (slots id old : ℕ) (m : Sat I) → Allows (Ruled law key) slots id m 0 (λ n. either (eqb n old) (old + 1) n) (claimed (step slots 0 old (old + 1) maybe.none) m)
  claims_at slots id old m = step_of slots id m 0 (λ n. either (eqb n old) (old + 1) n) (claimed (step slots 0 old (old + 1) maybe.none) m) (claims_grow slots id old m)

  pub comes_at : (slots id : ℕ) (m : Sat I) → Allows (Ruled law key) slots id m 1 (λ n. n) (came (step slots 1 0 0 maybe.none) m)
  comes_at slots id m = step_of slots id m 1 (λ n. n) (came (step slots 1 0 0 maybe.none) m) (comes_grow slots id m)

  pub looks_at : (slots id t : ℕ) (m : Sat I) → m.0.turn ≡ Has t → Allows (Ruled law key) slots id m 3 (λ n. n) (looked law (step slots 3 0 0 maybe.none) m)
  looks_at slots id t m is = step_of slots id m 3 (λ n. n) (looked law (step slots 3 0 0 maybe.none) m) (looks_grow slots id t m is)

  pub glances_at : (slots id : ℕ) (m : Sat I) → Allows (Ruled law key) slots id m 3 (λ n. n) (glanced law (step slots 3 0 0 maybe.none) m)
  glances_at slots id m = step_of slots id m 3 (λ n. n) (glanced law (step slots 3 0 0 maybe.none) m) (glances_grow slots id m)

  pub reads_at : (slots id : ℕ) (m : Sat I) → Allows (Ruled law key) slots id m 2 (λ n. n) (read_next (step slots 2 0 0 maybe.none) m)
  reads_at slots id m = step_of slots id m 2 (λ n. n) (read_next (step slots 2 0 0 maybe.none) m) (reads_grow slots id m)

  pub learns_at : (slots id : ℕ) (m : Sat I) → Allows (Ruled law key) slots id m 0 (λ n. n) (learned law (step slots 0 0 0 maybe.none) m)
  learns_at slots id m = step_of slots id m 0 (λ n. n) (learned law (step slots 0 0 0 maybe.none) m) (learns_grow slots id m)

  pub draws_at : (slots id n pk : ℕ) (m : Sat I) → m.0.who ≡ Pen pk → m.0.block ≡ None → m.0.fresh ≡ true → m.0.read < key.stop → 0 < n → n ≤ most_drawn → n ≤ m.0.reserve
      → Allows (Ruled law key) slots id m 2 (λ x. (x + n) % 2 ^ 64) (drew (step slots 2 n 0 maybe.none) m)
  draws_at slots id n pk m who free fresh below pos small space = step_of slots id m 2 (λ x. (x + n) % 2 ^ 64) (drew (step slots 2 n 0 maybe.none) m) (draws_grow slots id n pk m who free fresh below pos small space)

  pub puts_at : (slots id t n : ℕ) (m : Sat I) (x : Stored I) (b : Held I) → m.1 ≡ (0, Some b) ∷ [] → m.0.turn ≡ Has t → m.0.who ≡ Pen x.writer → can_store m.0.right ≡ true
      → m.0.block ≡ block_at x.first (length x.items) → law x.writer m.0.own x.first x.items ≡ true → StandsFor (m.0.all ++ x ∷ []) b → n ≡ length m.0.all + 1
      → length b.spare ≡ length m.0.spares → get_or b.spare x.writer 0 + length x.items ≡ get_or m.0.spares x.writer 0 → ((i : ℕ) → i ≢ x.writer → get_or b.spare i 0 ≡ get_or m.0.spares i 0)
      → Allows (Ruled law key) slots id m 3 (λ _. n) (λ _. put (step slots 3 n 0 maybe.none) m n)
  puts_at slots id t n m x b hand turn who right block lawful stands count lanes spent others = step_of slots id m 3 (λ _. n) (λ _. put (step slots 3 n 0 maybe.none) m n) (puts_grow slots id t n m x b hand turn who right block lawful stands count lanes spent others)

  pub leaves_at : (slots id t : ℕ) (m : Sat I) (b : Held I) → m.1 ≡ (0, Some b) ∷ [] → m.0.turn ≡ Has t → StandsFor m.0.all b → length b.spare ≡ length m.0.spares
      → ((i : ℕ) → get_or m.0.spares i 0 ≤ get_or b.spare i 0)
      → Allows (Ruled law key) slots id m 1 (λ _. t + 1) (λ _. left (step slots 1 (t + 1) 0 maybe.none) m (t + 1))
  leaves_at slots id t m b hand turn stands lanes spares = step_of slots id m 1 (λ _. t + 1) (λ _. left (step slots 1 (t + 1) 0 maybe.none) m (t + 1)) (leaves_grow slots id t m b hand turn stands lanes spares)

  -- a seat is cut in two
  record Cuts (w : World I) (id size : ℕ) (first second : View I) : Type 0 where
    pub to : World I
    pub good : Good law key to
    pub mine : Knows key to id first
    pub new : Knows key to size second
    pub others : (j : ℕ) (x : View I) → j ≢ id → Knows key w j x → Knows key to j x
    pub words : words_of w ≡ words_of to
    pub slot : w.line.slot ≡ to.line.slot

  cut : (id : ℕ) (v first second : View I) → ((w : World I) (size : ℕ) → Good law key w → Knows key w id v → Cuts w id size first second) → Splits (Ruled law key) id v first second
  cut id v first second go s r at =
      let g = go r.world (length s.views) r.good (r.knows id v at) in record {
        world = g.to;
        words = r.words ∙ g.words;
        homes = r.homes ∙ ap (λ o. o ∷ []) g.slot;
        good = g.good;
        knows = λ j x e. elim (at_snoc (set s.views id first) second x j e) [
          | inl before ↦ view_all (Knows key g.to) s.views id first g.mine (λ i y ne a. g.others i y ne (r.knows i y a)) j x before
          | inr last ↦ subst (λ (z : ℕ × View I). Knows key g.to z.0 z.1) (λ i. (sym (last.0 ∙ length-set s.views id first) i, last.1 i)) g.new
        ];
      }

  -- a reader that has seen as much
  pub parts_at : (id : ℕ) (v : View I) → Splits (Ruled law key) id v v (reader_of v)
  parts_at id v = cut id v v (reader_of v) (λ w size good k. record {
    to = w;
    good = good;
    mine = k;
    new = record { core = record { bound = k.core.bound; sees = k.core.sees; hears = (w.core.state.history, refl); reads = k.core.reads; plays = tt; holds = tt }; queued = tt };
    others = λ j x ne q. q;
    words = refl;
    slot = refl;
  })

  -- a pen is made
  pub makes_at : (id n : ℕ) (v : View I) → v.who ≡ Maker n → n < key.writers → Splits (Ruled law key) id v (next_maker v) (new_pen v)
  makes_at id n v who few = cut id v (next_maker v) (new_pen v) (λ w size good k. made_in w size good k (subst (Plays key w.core id v.own v.block v.reserve v.read v.fresh) who k.core.plays))
    where
      made_in : (w : World I) (size : ℕ) → Good law key w → Knows key w id v → (w.core.maker ≡ id) × (w.core.made ≡ n) → Cuts w id size (next_maker v) (new_pen v)
      made_in w size good k is =
          let to : Core I = record w.core { pen_of = change w.core.pen_of n size; made = n + 1 } in
          let u = good.unmade n (omega (arith, is.1)) in record {
            to = record w { core = to };
            good = record {
              ordered = good.ordered;
              ready = good.ready;
              kept = good.kept;
              most = omega (arith, few);
              unmade = λ j le. let m = good.unmade j (omega (arith, is.1, le)) in record { stores = m.stores; block = m.block; over = m.over; space = m.space };
              stocked = good.stocked;
            };
            mine = record {
              core = record {
                bound = k.core.bound;
                sees = k.core.sees;
                hears = k.core.hears;
                reads = k.core.reads;
                plays = subst (λ r. Plays key to id v.own v.block v.reserve v.read v.fresh (maker_after r)) (sym who) (is.0, refl);
                holds = holds_on w.core to id v.seen v.right refl refl k.core.holds;
              };
              queued = k.queued;
            };
            new = record {
              core = record {
                bound = k.core.bound;
                sees = (w.core.state.history, refl);
                hears = (w.core.state.history, refl);
                reads = omega arith;
                plays = subst (λ r. Plays key to size [] None 0 0 false (pen_after r)) (sym who) (record {
                  made = omega arith;
                  seat = change_here w.core.pen_of n size n refl;
                  own_is = sym u.stores;
                  block = u.block;
                  space = u.space;
                  within = omega arith;
                  value = λ f o. absurd (true≢false (sym f));
                });
                holds = tt;
              };
              queued = tt;
            };
            others = λ j x ne q. record {
              core = record {
                bound = q.core.bound;
                sees = q.core.sees;
                hears = q.core.hears;
                reads = q.core.reads;
                plays = others_play w.core j x size (λ e. ne (sym e ∙ is.0)) is.1 x.who q.core.plays;
                holds = holds_on w.core to j x.seen x.right refl refl q.core.holds;
              };
              queued = q.queued;
            };
            words = refl;
            slot = refl;
          }
        where
          others_play : (w : Core I) (j : ℕ) (x : View I) (size : ℕ) → w.maker ≢ j → w.made ≡ n → (who : Role) → Plays key w j x.own x.block x.reserve x.read x.fresh who
              → Plays key (record w { pen_of = change w.pen_of n size; made = n + 1 }) j x.own x.block x.reserve x.read x.fresh who
          others_play w j x size ne made Reader p = tt
          others_play w j x size ne made (Maker i) p = absurd (ne p.0)
          others_play w j x size ne made (Pen i) p = record {
            made = omega (arith, p.made, made);
            seat = change_else w.pen_of n size i (λ e. omega (arith, p.made, made, e)) ∙ p.seat;
            own_is = p.own_is;
            block = p.block;
            space = p.space;
            within = p.within;
            value = p.value;
          }

  -- what a seat knows in a world in which another seat alone may store, with another right
  knows_with : (w : World I) (o : Option ℕ) (j : ℕ) (x : View I) (r : Right) → Knows key w j x → Holds (record w.core { alone = o }) j x.seen r → Knows key (with_alone w o) j (record x { right = r })
  knows_with w o j x r k holds = record {
    core = record {
      bound = k.core.bound;
      sees = k.core.sees;
      hears = k.core.hears;
      reads = k.core.reads;
      plays = plays_on key w.core (record w.core { alone = o }) j x x refl refl (λ i p. same_pen w o j x i p) x.who k.core.plays;
      holds = holds;
    };
    queued = k.queued;
  }

  good_with : (w : World I) (o : Option ℕ) → Good law key w → Good law key (with_alone w o)
  good_with w o g = record {
    ordered = g.ordered;
    ready = g.ready;
    kept = g.kept;
    most = g.most;
    unmade = λ k le. let u = g.unmade k le in record { stores = u.stores; block = u.block; over = u.over; space = u.space };
    stocked = g.stocked;
  }

  -- a seat gives its right away, in part or whole, to a new one
  gives_right : (w : World I) (id size : ℕ) (new : Option ℕ) (v second : View I) (r : Right) → Good law key w → Knows key w id v → Holds (given w.core v.right new) id v.seen r
      → Knows key (with_alone w (alone_after v.right new w.core.alone)) size second → Cuts w id size (record v { right = r }) second
  gives_right w id size new v second r good k mine there =
      let o = alone_after v.right new w.core.alone in record {
        to = with_alone w o;
        good = good_with w o good;
        mine = knows_with w o id v r k mine;
        new = there;
        others = λ j x ne q. knows_with w o j x x.right q (holds_other w.core id j new v.seen x.seen v.right x.right ne k.core.holds q.core.holds);
        words = refl;
        slot = refl;
      }

  -- a reader that has seen as much, with some right
  reads_with : (w : World I) (o : Option ℕ) (id size : ℕ) (v : View I) (r : Right) → Knows key w id v → Holds (record w.core { alone = o }) size v.seen r
      → Knows key (with_alone w o) size (record (reader_of v) { right = r })
  reads_with w o id size v r k holds = record {
    core = record { bound = k.core.bound; sees = k.core.sees; hears = (w.core.state.history, refl); reads = k.core.reads; plays = tt; holds = holds };
    queued = tt;
  }

  -- two that share the right to store
  pub shares_at : (id : ℕ) (v : View I) → Splits (Ruled law key) id v (sharing v) (sharer_of v)
  shares_at id v = cut id v (sharing v) (sharer_of v) (λ w size good k.
      gives_right w id size None v (sharer_of v) (shared v.right) good k (holds_shared w.core id id v.seen v.right k.core.holds)
      (reads_with w (alone_after v.right None w.core.alone) id size v (shared v.right) k (holds_shared w.core id size v.seen v.right k.core.holds)))

  -- a right that goes to another seat
  pub lends_at : (id : ℕ) (v : View I) → Splits (Ruled law key) id v (lending v) (lent v)
  lends_at id v = cut id v (lending v) (lent v) (λ w size good k.
      gives_right w id size (Some size) v (lent v) Nothing good k tt
      (reads_with w (alone_after v.right (Some size) w.core.alone) id size v v.right k (holds_lent w.core id size v.seen v.right k.core.holds)))

  -- two seats become one
  record Glues (w : World I) (id other : ℕ) (all : View I) : Type 0 where
    pub alone : Option ℕ
    pub mine : Knows key (with_alone w alone) id all
    pub others : (j : ℕ) (x : View I) → j ≢ id → j ≢ other → Knows key w j x → Knows key (with_alone w alone) j x

  glued : (id : ℕ) (v : View I) (other : ℕ) (u all : View I) → ((w : World I) → other ≢ id → Knows key w id v → Knows key w other u → Glues w id other all) → Joins (Ruled law key) id v other u all spent
  glued id v other u all go s r at apart there =
      let mine = r.knows id v at in
      let theirs = r.knows other u (sym (set_else s.views id other all apart) ∙ there) in
      let g = go r.world apart mine theirs in
      let to = with_alone r.world g.alone in record {
        world = to;
        words = r.words;
        homes = r.homes;
        good = good_with r.world g.alone r.good;
        knows = view_all (Knows key to) (set s.views id all) other spent
            (record { core = record { bound = r.good.kept.few; sees = (r.world.core.state.history, refl); hears = (r.world.core.state.history, refl); reads = omega arith; plays = tt; holds = tt }; queued = tt })
            (λ j x ne e. view_all (λ i y. i ≢ other → Knows key to i y) s.views id all (λ no. g.mine) (λ i y no a away. g.others i y no away (r.knows i y a)) j x e ne);
      }

  -- what a seat knows that takes another's right
  taking : (w : World I) (id other : ℕ) (v u all : View I) → Knows key w other u → Knows key (with_alone w (alone_after u.right (Some id) w.core.alone)) id all → Glues w id other all
  taking w id other v u all q mine = record {
    alone = alone_after u.right (Some id) w.core.alone;
    mine = mine;
    others = λ j x ne away p. knows_with w (alone_after u.right (Some id) w.core.alone) j x x.right p (holds_other w.core other j (Some id) u.seen x.seen u.right x.right away q.core.holds p.core.holds);
  }

  pub meets_at : (id : ℕ) (v : View I) (other : ℕ) (u : View I) → Joins (Ruled law key) id v other u (both v u) spent
  meets_at id v other u = glued id v other u (both v u) (λ w apart k q.
      let h = w.core.state.history in
      let o = alone_after u.right (Some id) w.core.alone in
      taking w id other v u (both v u) q (record {
        core = record {
          bound = omega (arith, k.core.bound, q.core.bound);
          sees = begins_longer v.seen u.seen h k.core.sees q.core.sees;
          hears = begins_shorter v.seen u.seen h k.core.sees q.core.sees;
          reads = omega (arith, k.core.reads, q.core.reads);
          plays = plays_on key w.core (record w.core { alone = o }) id v (both v u) refl refl
              (λ i p. record { made = p.made; seat = p.seat; own_is = p.own_is; block = p.block; space = p.space; within = p.within; value = λ f e. omega (arith, p.value f e) }) v.who k.core.plays;
          holds = holds_joined w.core id other v.seen u.seen v.right u.right apart k.core.sees q.core.sees k.core.holds q.core.holds;
        };
        queued = k.queued;
      }))

  pub borrows_at : (id : ℕ) (v : View I) (other : ℕ) (u : View I) → Joins (Ruled law key) id v other u (borrowing v u) spent
  borrows_at id v other u = glued id v other u (borrowing v u) (λ w apart k q.
      let o = alone_after u.right (Some id) w.core.alone in
      taking w id other v u (borrowing v u) q (record {
        core = record {
          bound = omega (arith, k.core.bound, q.core.bound);
          sees = q.core.sees;
          hears = k.core.sees;
          reads = k.core.reads;
          plays = plays_on key w.core (record w.core { alone = o }) id v (borrowing v u) refl refl (λ i p. same_pen w o id v i p) v.who k.core.plays;
          holds = holds_lent w.core other id u.seen u.right q.core.holds;
        };
        queued = k.queued;
      }))

  pub hears_at : (id : ℕ) (v : View I) (other : ℕ) (u : View I) → Joins (Ruled law key) id v other u (hearing v u) spent
  hears_at id v other u = glued id v other u (hearing v u) (λ w apart k q. record {
    alone = w.core.alone;
    mine = record {
      core = record {
        bound = omega (arith, k.core.bound, q.core.bound);
        sees = k.core.sees;
        hears = q.core.sees;
        reads = k.core.reads;
        plays = plays_on key w.core (record w.core { alone = w.core.alone }) id v (hearing v u) refl refl (λ i p. same_pen w w.core.alone id v i p) v.who k.core.plays;
        holds = holds_on w.core (record w.core { alone = w.core.alone }) id v.seen v.right refl refl k.core.holds;
      };
      queued = k.queued;
    };
    others = λ j x ne away p. knows_with w w.core.alone j x x.right p (holds_on w.core (record w.core { alone = w.core.alone }) j x.seen x.right refl refl p.core.holds);
  })

  -- the start
  pub opens : 1 ≤ key.writers → key.writers ≤ most_writers → key.stop ≤ last_stop → Ruled law key (opening (0 ∷ 0 ∷ 0 ∷ 0 ∷ []) (Some (empty key.writers) ∷ []) (opening_view key))
  opens some few small = record {
    world = opening_world key;
    words = refl;
    homes = refl;
    good = record {
      ordered = omega arith;
      ready = λ e. tt;
      kept = record {
        reached = reached_start key.writers (2 ^ 48);
        limit = refl;
        writers = length-replicate {A = Option Block} key.writers None;
        few = few;
        small = small;
        bound = omega arith;
        over_is = λ k o. absurd (true≢false (sym o));
        blocks = λ k. omega (arith, ap count_of (block_at-start key.writers k));
        lawful = refl;
      };
      most = omega arith;
      unmade = λ k le. record { stores = refl; block = block_at-start key.writers k; over = refl; space = refl };
      stocked = record { stands = stands_empty key.writers; spaces = λ k. omega arith; count = length-replicate {A = ℕ} key.writers 0 };
    };
    knows = first;
  }
    where
      first : (j : ℕ) (v : View I) → get_elem? (opening_view key ∷ []) j ≡ maybe.some v → Knows key (opening_world key) j v
      first zero v e = subst (Knows key (opening_world key) 0) (some-injective (opening_view key) v e) (record {
        core = record { bound = omega arith; sees = ([], refl); hears = ([], refl); reads = omega arith; plays = (refl, refl); holds = (refl, refl) };
        queued = tt;
      })
      first (suc j) v e = absurd (some-ne-none v (sym e))

-- each step
pub steps_grow : {I : Type 0} (law : Law I) → StepsGrow law
steps_grow law key slots id m = record {
  claims = λ old. claims_grow law key slots id old m;
  comes = comes_grow law key slots id m;
  looks = λ t has. looks_grow law key slots id t m has;
  glances = glances_grow law key slots id m;
  reads = reads_grow law key slots id m;
  learns = learns_grow law key slots id m;
  draws = λ n k d. draws_grow law key slots id n k m d.who d.free d.fresh d.below d.some_positions d.few d.space;
  puts = λ t n x b p. puts_grow law key slots id t n m x b p.hand p.turn p.who p.right p.block p.lawful p.stands p.count p.lanes p.spent p.others;
  leaves = λ t b e. leaves_grow law key slots id t m b e.hand e.turn e.stands e.lanes e.spares;
}

-- the front of a beginning of the history lies below each block that is held
seen_covers : {I : Type 0} (s : State I) → IsReached s → (h : List (Stored I)) → Begins h s.history → (front : ℕ) → IsFront h front → (k : ℕ) (b : Block) → block_of s k ≡ Some b → front < b.first
seen_covers s reached h begins front is k b held =
    let whole = reached_front s reached in
    let up : front ≤ free_to s.next s.held = front_below h begins.0 front (free_to s.next s.held) is (subst (λ l. IsFront l (free_to s.next s.held)) begins.1 whole) in
    let below : free_to s.next s.held < b.first =
    (covers_no_unfinished_write reached.writers reached.limit reached.steps s (free_to s.next s.held) reached.run whole).1 k b held in
    omega (arith, up, below)

-- the interleaving law
pub one_history : {I : Type 0} (law : Law I) → SeesOneHistory law
one_history law key s r =
    let w = r.world.core in
    let kept = r.good.kept in record {
      state = w.state;
      reached = kept.reached;
      next = ap (λ ws. get_or ws 2 0) r.words;
      count = ap (λ ws. get_or ws 3 0) r.words;
      below = omega (arith, few_drawn law key w.state w.over kept, kept.small);
      lawful = kept.lawful;
      seen = λ j v at. (r.knows j v at).core.sees;
      writers = reached_writers w.state kept.reached;
      covers = λ j v front k b at is held. seen_covers w.state kept.reached v.seen (r.knows j v at).core.sees front is k b held;
      pens = λ j v k at who. let p = pen_is key w j v k (r.knows j v at).core who in record { own_is = p.own_is; block = sym p.block };
      one_pen = λ i j u v k a b who same. sym (pen_is key w i u k (r.knows i u a).core who).seat ∙ (pen_is key w j v k (r.knows j v b).core same).seat;
      whole = λ j v at is. alone_sees w j v.seen v.right is (r.knows j v at).core.holds;
      alone = λ i j u v a b is ne. none_else w i j v.seen v.right (alone_at w i u.seen u.right is (r.knows i u a).core.holds) ne (r.knows j v b).core.holds;
    }
