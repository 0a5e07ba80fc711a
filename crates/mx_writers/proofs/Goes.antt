-- Each step of one seat at the table of turns leads from good queues to good ones, and what the other seats know stays true.
use Rattle.std.proofs.Common.{◌≡◌, ◌≢◌, ℕ, suc, ◌+◌, ◌*◌, ◌<◌, eqb, List, [], ◌∷◌, Option, Some, None, length, get_or, set, refl, sym, ap, ◌∙◌, subst, ⊎_elim, inl, inr, arith}
use Rattle.std.proofs.lemmas.Bool.{cases_eq}
use mathlib.Core.Option as maybe
use mathlib.Core.Option.{some-injective}
use lib.ListN.{get_elem?}
use lib.Seq.{set-get_or}
use prog.Atomic.{either}
use Rattle.atomic_table.specs.Seated.{TableId}
use Rattle.atomic_table.specs.Table.{step, Act, keeps, takes, gives, carried_after, homes_after, Valid}
use Rattle.atomic_table.proofs.Lists.{at_set, set_else, exchanged}
use Rattle.mx_front.specs.declared.view.Turn.{Turn}
use Rattle.mx_front.specs.declared.view.Turn.TheVariants.{Idle, Waits, Has}
use Rattle.mx_front.specs.Queue.{Line, IsHome, InLine}
use Rattle.mx_front.proofs.Queues.{turn_cases, claimed_line, came_line, left_line}
use Rattle.mx_front.proofs.Worlds.{change, change_here}
use Rattle.mx_writers.specs.declared.view.Ask.{Ask}
use Rattle.mx_writers.specs.Locks.{words_of, slots_of, Fits, IsGood, InQueue, Asks, Knows, AreGood}
use Rattle.mx_writers.specs.Tells.{Sat, claimed, came, left}
use Rattle.mx_writers.proofs.Lines.{double, double_is, set_there, there, ticket_at, serving_at, ticket_set, serving_set, slot_at, slot_set, slot_same}

module _ {T : Type 0} where
  -- a shard at home
  record AtHome (P : T → Type 0) (o : maybe.Option (Option T)) : Type 0 where
    pub shard : T
    pub is : o ≡ maybe.some (Some shard)
    pub fits : P shard

  at_home : (P : T → Type 0) (o : maybe.Option (Option T)) → IsHome o → Fits P o → AtHome P o
  at_home P maybe.none home f = absurd home
  at_home P (maybe.some None) home f = absurd f
  at_home P (maybe.some (Some x)) home f = record { shard = x; is = refl; fits = f }

  -- where one queue changes, a seat stands in the others as before
  queue_on : (ls : List (Line T)) (j k w : ℕ) (l to : Line T) (turn : Turn) → get_elem? ls k ≡ maybe.some l → (InLine l j turn → InLine to j turn) → InQueue ls j w turn → InQueue (set ls k to) j w turn
  queue_on ls j k w l to turn e go q = elim (cases_eq w k) [
    | inl same ↦
        let line : q.line ≡ l = some-injective q.line l (sym q.at ∙ ap (get_elem? ls) same ∙ e) in
        record { line = to; at = ap (get_elem? (set ls k to)) same ∙ set_there ls k l to e; is = go (subst (λ x. InLine x j turn) line q.is) }
    | inr other ↦ record { line = q.line; at = set_else ls k w to other ∙ q.at; is = q.is }
  ]

  asks_on : (ls : List (Line T)) (j k w : ℕ) (l to : Line T) (turn : Turn) → get_elem? ls k ≡ maybe.some l → (InLine l j turn → InLine to j turn) → Asks ls j w turn → Asks (set ls k to) j w turn
  asks_on ls j k w l to Idle e go q = tt
  asks_on ls j k w l to (Waits t) e go q = queue_on ls j k w l to (Waits t) e go q
  asks_on ls j k w l to (Has t) e go q = queue_on ls j k w l to (Has t) e go q

module _ {T : Type 0} (P : ℕ → TableId → T → Type 0) (at : TableId) where
  pub record Goes (ls : List (Line T)) (id : ℕ) (c : List (ℕ × Option T)) (i n : ℕ) (told : Sat T → Type 0) : Type 0 where
    pub to : List (Line T)
    pub view : Ask
    pub act : Act (Option T)
    pub valid : Valid (slots_of ls) c act
    pub good : AreGood P at to
    pub mine : Knows at to id view
    pub others : (j : ℕ) (x : Ask) → j ≢ id → Knows at ls j x → Knows at to j x
    pub words : set (words_of ls) i n ≡ words_of to
    pub homes : homes_after (slots_of ls) c act ≡ slots_of to
    pub tells : told (view, carried_after c act)

  -- the queues stay
  stays : (ls : List (Line T)) (id : ℕ) (v : Ask) (c : List (ℕ × Option T)) (i : ℕ) (told : Sat T → Type 0) → AreGood P at ls → Knows at ls id v → told (v, c) → Goes ls id c i (get_or (words_of ls) i 0) told
  stays ls id v c i told good k tells = record {
    to = ls;
    view = v;
    act = keeps;
    valid = tt;
    good = good;
    mine = k;
    others = λ j x ne q. q;
    words = set-get_or (words_of ls) i 0;
    homes = refl;
    tells = tells;
  }

  good_on : (ls : List (Line T)) (k : ℕ) (to : Line T) → AreGood P at ls → IsGood (P k at) to → AreGood P at (set ls k to)
  good_on ls k to good new j x e = ⊎_elim (λ (t : (j ≡ k) × (to ≡ x)). subst (λ (z : ℕ × Line T). IsGood (P z.0 at) z.1) (λ i. (sym t.0 i, t.1 i)) new)
      (λ (t : (j ≢ k) × (get_elem? ls j ≡ maybe.some x)). good j x t.1) (at_set ls k j to x e)

  others_on : (ls : List (Line T)) (id k : ℕ) (l to : Line T) → get_elem? ls k ≡ maybe.some l → ((j : ℕ) (turn : Turn) → j ≢ id → InLine l j turn → InLine to j turn)
      → (j : ℕ) (x : Ask) → j ≢ id → Knows at ls j x → Knows at (set ls k to) j x
  others_on ls id k l to e go j x ne q = record { stream = q.stream; asks = asks_on ls j k x.writer l to x.turn e (go j x.turn ne) q.asks }

  -- a try to take a ticket of the writer k
  pub claims : (slots : ℕ) (ls : List (Line T)) (id old k : ℕ) (v : Ask) (c : List (ℕ × Option T)) → k < length ls → AreGood P at ls → Knows at ls id v
      → Goes ls id c (double k) (either (eqb (get_or (words_of ls) (double k) 0) old) (old + 1) (get_or (words_of ls) (double k) 0))
      (claimed (step slots (double k) old (old + 1) maybe.none) (v, c) (get_or (words_of ls) (double k) 0))
  claims slots ls id old k v c lt good knows =
      let w = get_or (words_of ls) (double k) 0 in
      exchanged w old (old + 1) (λ n. Goes ls id c (double k) n (claimed (step slots (double k) old (old + 1) maybe.none) (v, c) w))
      (λ hit. hits (there ls k lt).0 (there ls k lt).1 hit)
      (λ miss. stays ls id v c (double k) (claimed (step slots (double k) old (old + 1) maybe.none) (v, c) w) good knows (λ e. absurd (miss e), λ e. refl))
    where
      hits : (l : Line T) → get_elem? ls k ≡ maybe.some l → get_or (words_of ls) (double k) 0 ≡ old
          → Goes ls id c (double k) (old + 1) (claimed (step slots (double k) old (old + 1) maybe.none) (v, c) (get_or (words_of ls) (double k) 0))
      hits l e hit =
          let w = get_or (words_of ls) (double k) 0 in
          let is : w ≡ l.ticket = ticket_at ls k l e in
          let was : l.ticket ≡ old = sym is ∙ hit in
          let g = good k l e in
          let to : Line T = record l { ticket = old + 1; ticket_of = change l.ticket_of old id } in record {
            to = set ls k to;
            view = record v { turn = Waits w; writer = k };
            act = keeps;
            valid = tt;
            good = good_on ls k to good (record { ordered = omega (arith, g.ordered, was); ready = λ same. absurd (omega (arith, g.ordered, was, same)); fits = g.fits });
            mine = record {
              stream = knows.stream;
              asks = record {
                line = to;
                at = set_there ls k l to e;
                is = record {
                  from = omega (arith, g.ordered, is);
                  below = omega (arith, hit);
                  mine = change_here l.ticket_of old id w hit;
                  home = λ same. g.ready (sym same ∙ is);
                };
              };
            };
            others = others_on ls id k l to e (λ j turn ne. claimed_line l j id old turn was);
            words = ticket_set ls k (old + 1) l to e refl refl;
            homes = slot_same ls k l to e refl;
            tells = (λ found j word. ap (λ x. (record v { turn = Waits w; writer = x }, c)) (let d : 2 * k ≡ double k = double_is k in omega (arith, d, word)), λ miss. absurd (miss hit));
          }

  -- the ticket of the seat's writer that is served
  pub comes : (slots : ℕ) (ls : List (Line T)) (id : ℕ) (v : Ask) (c : List (ℕ × Option T)) → AreGood P at ls → Knows at ls id v
      → Goes ls id c (suc (double v.writer)) (get_or (words_of ls) (suc (double v.writer)) 0)
      (came P (step slots (suc (double v.writer)) 0 0 maybe.none) (v, c) (get_or (words_of ls) (suc (double v.writer)) 0))
  comes slots ls id v c good knows =
      let w = get_or (words_of ls) (suc (double v.writer)) 0 in elim (turn_cases v.turn w) [
        | inl is ↦ takes_shard is (subst (Asks ls id v.writer) is knows.asks)
        | inr not ↦ stays ls id v c (suc (double v.writer)) (came P (step slots (suc (double v.writer)) 0 0 maybe.none) (v, c) w) good knows (λ e. absurd (not e), λ e. refl)
      ]
    where
      takes_shard : v.turn ≡ Waits (get_or (words_of ls) (suc (double v.writer)) 0) → InQueue ls id v.writer (Waits (get_or (words_of ls) (suc (double v.writer)) 0))
          → Goes ls id c (suc (double v.writer)) (get_or (words_of ls) (suc (double v.writer)) 0)
          (came P (step slots (suc (double v.writer)) 0 0 maybe.none) (v, c) (get_or (words_of ls) (suc (double v.writer)) 0))
      takes_shard is q =
          let k = v.writer in
          let w = get_or (words_of ls) (suc (double k)) 0 in
          let l = q.line in
          let serves : w ≡ l.serving = serving_at ls k l q.at in
          let g = good k l q.at in
          let b = at_home (P k at) l.slot (q.is.home serves) g.fits in
          let mine : l.ticket_of l.serving ≡ id = ap l.ticket_of (sym serves) ∙ q.is.mine in
          let to : Line T = record l { slot = maybe.none } in record {
            to = set ls k to;
            view = record v { turn = Has w };
            act = takes k (Some b.shard);
            valid = slot_at ls k l q.at ∙ ap (λ o. maybe.some o) b.is;
            good = good_on ls k to good (record { ordered = g.ordered; ready = λ same. absurd (omega (arith, q.is.below, serves, same)); fits = tt });
            mine = record {
              stream = knows.stream;
              asks = record { line = to; at = set_there ls k l to q.at; is = record { turn = serves; below = q.is.below; mine = q.is.mine; out = refl } };
            };
            others = others_on ls id k l to q.at (λ j turn ne. came_line l j id turn ne mine);
            words = serving_set ls k w l to q.at serves refl;
            homes = slot_set ls k to;
            tells = (λ e. record { shard = b.shard; is = refl; fits = subst (λ a. P k a b.shard) (sym knows.stream) b.fits }, λ not. absurd (not is));
          }

  -- the turn is over
  pub leaves : (slots t : ℕ) (ls : List (Line T)) (id : ℕ) (v : Ask) (x : T) → v.turn ≡ Has t → P v.writer v.at x → AreGood P at ls → Knows at ls id v
      → Goes ls id ((v.writer, Some x) ∷ []) (suc (double v.writer)) (t + 1) (left (step slots (suc (double v.writer)) (t + 1) 0 maybe.none) (v, (v.writer, Some x) ∷ []) (t + 1))
  leaves slots t ls id v x is fits good knows = gives_back (subst (Asks ls id v.writer) is knows.asks)
    where
      gives_back : InQueue ls id v.writer (Has t)
          → Goes ls id ((v.writer, Some x) ∷ []) (suc (double v.writer)) (t + 1) (left (step slots (suc (double v.writer)) (t + 1) 0 maybe.none) (v, (v.writer, Some x) ∷ []) (t + 1))
      gives_back q =
          let k = v.writer in
          let l = q.line in
          let g = good k l q.at in
          let mine : l.ticket_of l.serving ≡ id = ap l.ticket_of (sym q.is.turn) ∙ q.is.mine in
          let to : Line T = record l { serving = t + 1; slot = maybe.some (Some x) } in record {
            to = set ls k to;
            view = record v { turn = Idle };
            act = gives;
            valid = tt;
            good = good_on ls k to good (record { ordered = omega (arith, q.is.below); ready = λ same. tt; fits = subst (λ a. P k a x) knows.stream fits });
            mine = record { stream = knows.stream; asks = tt };
            others = others_on ls id k l to q.at (λ j turn ne. left_line l j id t x turn ne mine q.is.turn);
            words = serving_set ls k (t + 1) l to q.at refl refl;
            homes = slot_set ls k to;
            tells = λ y e. refl;
          }
