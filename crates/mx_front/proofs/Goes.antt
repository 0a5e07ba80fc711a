-- Each step of one seat leads from a good world to a good one, and what the other seats know stays true.
use Rattle.std.proofs.Common.{◌<◌, ◌≡◌, ◌≢◌, ℕ, ◌+◌, ◌≤◌, Bool, true, eqb, List, [], ◌∷◌, Some, None, length, get_or, set, append-nil, refl, sym, ap, ◌∙◌, subst, inl, inr, arith}
use mathlib.Core.Option as maybe
use lib.Seq.{set-get_or}
use prog.Atomic.{either}
use Rattle.atomic_table.specs.Table.{step, Act, keeps, takes, carried_after, homes_after, Valid}
use Rattle.atomic_table.proofs.Lists.{exchanged}
use Rattle.mx_core.specs.declared.history.Stored.{Stored}
use Rattle.mx_core.specs.History.{own, is_stored, stored_count, AreOf, Begins, Law, keeps_law}
use Rattle.mx_core.specs.Limits.{most_writers, most_held}
use Rattle.mx_core.specs.State.{State, block_of, count_of}
use Rattle.mx_core.specs.Orderly.{top}
use Rattle.mx_core.proofs.Histories.{begins_self}
use Rattle.mx_core.proofs.Orders.{runs_are_orderly, reached_above}
use Rattle.mx_core.proofs.Owns.{begins_own, keeps_law_front, are_of_front}
use Rattle.mx_core.proofs.Reached.{stored_apart, held_in, reached_counts, reached_writers}
use Rattle.mx_lanes.specs.Held.{Held}
use Rattle.mx_front.specs.declared.board.Key.{Key}
use Rattle.mx_front.specs.declared.view.Role.{Role}
use Rattle.mx_front.specs.declared.view.Role.TheVariants.{Reader, Maker, Pen}
use Rattle.mx_front.specs.declared.view.Turn.{Turn}
use Rattle.mx_front.specs.declared.view.Turn.TheVariants.{Idle, Waits, Has}
use Rattle.mx_front.specs.declared.view.View.{View}
use Rattle.mx_front.specs.Queue.{Line, IsHome, Waiting}
use Rattle.mx_front.specs.World.{Slot, Core, World, words_of, Kept, Standing, Stocked, Good, InTurn, Queued, PenOf, Plays, Knowing, Knows}
use Rattle.mx_front.specs.Told.{Sat, claimed, came, looking, looked, glancing, glanced, read_next, longer, learned}
use Rattle.mx_front.proofs.Rights.{alone_sees, holds_all, longer_whole}
use Rattle.mx_front.proofs.Queues.{turn_cases, claimed_line, other_ticket, came_line, left_line}
use Rattle.mx_front.proofs.Worlds.{change, change_here, passed_le, held_few, begins_longer, begins_one}

-- the space that is set apart after a turn
abbrev pub space_after : Role → (ℕ → ℕ) → List ℕ → ℕ → ℕ
space_after (Pen k) space spares = change space k (get_or spares k 0)
space_after who space spares = space

module _ {I : Type 0} where
  -- a book at home
  record AtHome (lanes : ℕ) (h : List (Stored I)) (space : ℕ → ℕ) (o : maybe.Option (Slot I)) : Type 0 where
    pub book : Held I
    pub is : o ≡ maybe.some (Some book)
    pub stands : Standing lanes h space book

  at_home : (lanes : ℕ) (h : List (Stored I)) (space : ℕ → ℕ) (o : maybe.Option (Slot I)) → IsHome o → Stocked lanes h space o → AtHome lanes h space o
  at_home lanes h space maybe.none home s = absurd home
  at_home lanes h space (maybe.some None) home s = absurd s
  at_home lanes h space (maybe.some (Some b)) home s = record { book = b; is = refl; stands = s }

  -- what a seat knows of the queue, when another seat takes a ticket, takes the book, changes what it stands for, or gives it back
  claimed_others : (lanes : ℕ) (l : Line (Held I)) (h : List (Stored I)) (space : ℕ → ℕ) (j id old : ℕ) (all : List (Stored I)) (spares : List ℕ) (turn : Turn) → l.ticket ≡ old
      → Queued lanes l h space j all spares turn → Queued lanes (record l { ticket = old + 1; ticket_of = change l.ticket_of old id }) h space j all spares turn
  claimed_others lanes l h space j id old all spares Idle e q = tt
  claimed_others lanes l h space j id old all spares (Waits t) e q = claimed_line l j id old (Waits t) e q
  claimed_others lanes l h space j id old all spares (Has t) e q = record { queue = claimed_line l j id old (Has t) e q.queue; whole = q.whole; spaces = q.spaces; count = q.count }

  came_others : (lanes : ℕ) (l : Line (Held I)) (h : List (Stored I)) (space : ℕ → ℕ) (j id : ℕ) (all : List (Stored I)) (spares : List ℕ) (turn : Turn) → j ≢ id → l.ticket_of l.serving ≡ id
      → Queued lanes l h space j all spares turn → Queued lanes (record l { slot = maybe.none }) h space j all spares turn
  came_others lanes l h space j id all spares Idle ne is q = tt
  came_others lanes l h space j id all spares (Waits t) ne is q = came_line l j id (Waits t) ne is q
  came_others lanes l h space j id all spares (Has t) ne is q = absurd (other_ticket l j id t ne is q.queue.mine q.queue.turn)

  pub changed_others : (lanes : ℕ) (l : Line (Held I)) (h g : List (Stored I)) (space spaces : ℕ → ℕ) (j id : ℕ) (all : List (Stored I)) (spares : List ℕ) (turn : Turn) → j ≢ id → l.ticket_of l.serving ≡ id
      → Queued lanes l h space j all spares turn → Queued lanes l g spaces j all spares turn
  changed_others lanes l h g space spaces j id all spares Idle ne is q = tt
  changed_others lanes l h g space spaces j id all spares (Waits t) ne is q = q
  changed_others lanes l h g space spaces j id all spares (Has t) ne is q = absurd (other_ticket l j id t ne is q.queue.mine q.queue.turn)

  pub left_others : (lanes : ℕ) (l : Line (Held I)) (h : List (Stored I)) (space spaces : ℕ → ℕ) (j id t : ℕ) (b : Held I) (all : List (Stored I)) (spares : List ℕ) (turn : Turn) → j ≢ id
      → l.ticket_of l.serving ≡ id → t ≡ l.serving → Queued lanes l h space j all spares turn
      → Queued lanes (record l { serving = t + 1; slot = maybe.some (Some b) }) h spaces j all spares turn
  left_others lanes l h space spaces j id t b all spares Idle ne is at q = tt
  left_others lanes l h space spaces j id t b all spares (Waits u) ne is at q = left_line l j id t b (Waits u) ne is at q
  left_others lanes l h space spaces j id t b all spares (Has u) ne is at q = absurd (other_ticket l j id u ne is q.queue.mine q.queue.turn)

module _ {I : Type 0} (key : Key) where
  pub pen_is : (w : Core I) (id : ℕ) (v : View I) (k : ℕ) → Knowing key w id v → v.who ≡ Pen k → PenOf key w id v.own v.block v.reserve v.read v.fresh k
  pen_is w id v k known is = subst (Plays key w id v.own v.block v.reserve v.read v.fresh) is known.plays

  pub turn_is : (w : World I) (id : ℕ) (v : View I) (turn : Turn) → Knows key w id v → v.turn ≡ turn → Queued key.writers w.line w.core.state.history w.core.space id v.all v.spares turn
  turn_is w id v turn k is = subst (Queued key.writers w.line w.core.state.history w.core.space id v.all v.spares) is k.queued

  -- a seat plays on where it plays a pen's part on
  pub plays_on : (w to : Core I) (j : ℕ) (v u : View I) → to.maker ≡ w.maker → to.made ≡ w.made
      → ((k : ℕ) → PenOf key w j v.own v.block v.reserve v.read v.fresh k → PenOf key to j u.own u.block u.reserve u.read u.fresh k)
      → (who : Role) → Plays key w j v.own v.block v.reserve v.read v.fresh who → Plays key to j u.own u.block u.reserve u.read u.fresh who
  plays_on w to j v u maker made pen Reader p = tt
  plays_on w to j v u maker made pen (Maker k) p = (maker ∙ p.0, made ∙ p.1)
  plays_on w to j v u maker made pen (Pen k) p = pen k p

module _ {I : Type 0} (law : Law I) (key : Key) where
  pub record Goes (w : World I) (id : ℕ) (c : List (ℕ × Slot I)) (i n : ℕ) (told : Sat I → Type 0) : Type 0 where
    pub to : World I
    pub view : View I
    pub act : Act (Slot I)
    pub valid : Valid (w.line.slot ∷ []) c act
    pub good : Good law key to
    pub mine : Knows key to id view
    pub others : (j : ℕ) (x : View I) → j ≢ id → Knows key w j x → Knows key to j x
    pub words : set (words_of w) i n ≡ words_of to
    pub homes : homes_after (w.line.slot ∷ []) c act ≡ to.line.slot ∷ []
    pub grows : Begins w.core.state.history to.core.state.history
    pub tells : told (view, carried_after c act)

  -- the world stays
  stays : (w : World I) (id : ℕ) (v : View I) (c : List (ℕ × Slot I)) (i : ℕ) (told : Sat I → Type 0) → Good law key w → Knows key w id v → told (v, c) → Goes w id c i (get_or (words_of w) i 0) told
  stays w id v c i told good k tells = record {
    to = w;
    view = v;
    act = keeps;
    valid = tt;
    good = good;
    mine = k;
    others = λ j x ne q. q;
    words = set-get_or (words_of w) i 0;
    homes = refl;
    grows = begins_self w.core.state.history;
    tells = tells;
  }

  pub few_drawn : (s : State I) (over : ℕ → Bool) → Kept law key s over → s.next ≤ key.stop + most_held
  few_drawn s over kept = omega (arith, kept.bound, passed_le over most_writers)

  -- what begins the history is stored by the stream's writers
  of_writers : (s : State I) (over : ℕ → Bool) → Kept law key s over → (n : ℕ) (h : List (Stored I)) → key.writers ≤ n → Begins h s.history → AreOf n h
  of_writers s over kept n h le b = are_of_front (length s.held) n h s.history (omega (arith, kept.writers, le)) b (reached_writers s kept.reached)

  -- a try to take a ticket
  pub claims : (slots : ℕ) (w : World I) (id old : ℕ) (v : View I) (c : List (ℕ × Slot I)) → Good law key w → Knows key w id v
      → Goes w id c 0 (either (eqb w.line.ticket old) (old + 1) w.line.ticket) (claimed (step slots 0 old (old + 1) maybe.none) (v, c) w.line.ticket)
  claims slots w id old v c good k = exchanged w.line.ticket old (old + 1) (λ n. Goes w id c 0 n (claimed (step slots 0 old (old + 1) maybe.none) (v, c) w.line.ticket))
      (λ hit. record {
        to = record w { line = record w.line { ticket = old + 1; ticket_of = change w.line.ticket_of old id } };
        view = record v { turn = Waits w.line.ticket };
        act = keeps;
        valid = tt;
        good = record {
          ordered = omega (arith, good.ordered, hit);
          ready = λ e. absurd (omega (arith, good.ordered, hit, e));
          kept = good.kept;
          most = good.most;
          unmade = λ j le. let u = good.unmade j le in record { stores = u.stores; block = u.block; over = u.over; space = u.space };
          stocked = good.stocked;
        };
        mine = record {
          core = record { bound = k.core.bound; sees = k.core.sees; hears = k.core.hears; reads = k.core.reads; plays = k.core.plays; holds = k.core.holds };
          queued = record {
            from = good.ordered;
            below = omega (arith, hit);
            mine = change_here w.line.ticket_of old id w.line.ticket hit;
            home = λ e. good.ready (sym e);
          };
        };
        others = λ j x ne q. record { core = q.core; queued = claimed_others key.writers w.line w.core.state.history w.core.space j id old x.all x.spares x.turn hit q.queued };
        words = refl;
        homes = refl;
        grows = begins_self w.core.state.history;
        tells = (λ e. refl, λ miss. absurd (miss hit));
      })
      (λ miss. stays w id v c 0 (claimed (step slots 0 old (old + 1) maybe.none) (v, c) w.line.ticket) good k (λ e. absurd (miss e), λ e. refl))

  -- the ticket that is served
  pub comes : (slots : ℕ) (w : World I) (id : ℕ) (v : View I) (c : List (ℕ × Slot I)) → Good law key w → Knows key w id v
      → Goes w id c 1 w.line.serving (came (step slots 1 0 0 maybe.none) (v, c) w.line.serving)
  comes slots w id v c good k = elim (turn_cases v.turn w.line.serving) [
    | inl is ↦ takes_book is (turn_is key w id v (Waits w.line.serving) k is)
    | inr not ↦ stays w id v c 1 (came (step slots 1 0 0 maybe.none) (v, c) w.line.serving) good k (λ e. absurd (not e), λ e. refl)
  ]
    where
      takes_book : v.turn ≡ Waits w.line.serving → Waiting w.line id w.line.serving → Goes w id c 1 w.line.serving (came (step slots 1 0 0 maybe.none) (v, c) w.line.serving)
      takes_book is q =
          let b = at_home key.writers w.core.state.history w.core.space w.line.slot (q.home refl) good.stocked in record {
            to = record w { line = record w.line { slot = maybe.none } };
            view = record v { turn = Has w.line.serving; all = w.core.state.history; spares = b.book.spare };
            act = takes 0 (Some b.book);
            valid = ap (λ o. maybe.some o) b.is;
            good = record {
              ordered = good.ordered;
              ready = λ e. absurd (omega (arith, q.below, e));
              kept = good.kept;
              most = good.most;
              unmade = λ j le. let u = good.unmade j le in record { stores = u.stores; block = u.block; over = u.over; space = u.space };
              stocked = tt;
            };
            mine = record {
              core = record { bound = k.core.bound; sees = k.core.sees; hears = k.core.hears; reads = k.core.reads; plays = k.core.plays; holds = k.core.holds };
              queued = record { queue = record { turn = refl; below = q.below; mine = q.mine; out = refl }; whole = refl; spaces = b.stands.spaces; count = b.stands.count };
            };
            others = λ j x ne q'. record { core = q'.core; queued = came_others key.writers w.line w.core.state.history w.core.space j id x.all x.spares x.turn ne q.mine q'.queued };
            words = refl;
            homes = refl;
            grows = begins_self w.core.state.history;
            tells = (
              λ e. record {
                book = b.book;
                all = w.core.state.history;
                is = refl;
                stands = b.stands.stands;
                space = λ pk who. let p = pen_is key w.core id v pk k.core who in (omega (arith, p.space, b.stands.spaces pk), omega (arith, p.made, good.most, b.stands.count));
              },
              λ not. absurd (not is),
            );
          }

  -- with the turn, a look at the stores
  pub looks : (slots t : ℕ) (w : World I) (id : ℕ) (v : View I) (c : List (ℕ × Slot I)) → v.turn ≡ Has t → Good law key w → Knows key w id v
      → Goes w id c 3 (length w.core.state.history) (looked law (step slots 3 0 0 maybe.none) (v, c) (length w.core.state.history))
  looks slots t w id v c is good k =
      let q : InTurn key.writers w.line w.core.state.history w.core.space id v.all v.spares t = turn_is key w id v (Has t) k is in
      let s = w.core.state in
      let kept = good.kept in record {
        to = w;
        view = looking v;
        act = keeps;
        valid = tt;
        good = good;
        mine = record {
          core = record {
            bound = k.core.bound;
            sees = ([], sym q.whole ∙ sym (append-nil v.all));
            hears = k.core.hears;
            reads = k.core.reads;
            plays = k.core.plays;
            holds = holds_all w.core w.core id v.seen v.all v.right refl q.whole k.core.holds;
          };
          queued = k.queued;
        };
        others = λ j x ne o. o;
        words = refl;
        homes = refl;
        grows = begins_self w.core.state.history;
        tells = (
          refl,
          record {
            count = ap length (sym q.whole);
            begins = subst (Begins v.seen) (sym q.whole) k.core.sees;
            heard = subst (Begins v.heard) (sym q.whole) k.core.hears;
            alone = λ is. q.whole ∙ sym (alone_sees w.core id v.seen v.right is k.core.holds);
            lawful = ap (keeps_law law []) q.whole ∙ kept.lawful;
            orderly = runs_are_orderly s kept.reached v.all ([], sym q.whole ∙ sym (append-nil v.all));
            writers = subst (AreOf v.writers) (sym q.whole) (of_writers s w.core.over kept v.writers s.history k.core.bound ([], sym (append-nil s.history)));
            reads = subst (λ h. v.read ≤ stored_count h + most_held) (sym q.whole) (omega (arith, k.core.reads, reached_counts s kept.reached, held_few s.held kept.blocks, kept.writers, kept.few));
            pen = λ pk who. let p = pen_is key w.core id v pk k.core who in record {
              below = omega (arith, p.made, good.most, k.core.bound);
              own_is = ap (λ h. own h pk) q.whole ∙ sym p.own_is;
              block = λ b e.
                  let at : block_of s pk ≡ Some b = p.block ∙ e in
                  let there = held_in s kept.reached pk b at in
                  let least : count_of v.block ≡ b.count = ap count_of e in (
                    there.0,
                    there.1,
                    omega (arith, there.2, few_drawn s w.core.over kept, kept.small),
                    omega (arith, least, p.within),
                  );
              above = λ b e. subst (λ l. top 0 l < b.first) (sym p.own_is) (reached_above s kept.reached pk b (p.block ∙ e));
              apart = λ b at e low high. ap (λ h. is_stored h at) q.whole ∙ stored_apart s kept.reached pk b at (p.block ∙ e) low high;
            };
          },
        );
      }

  -- without a turn, a look at the stores
  pub glances : (slots : ℕ) (w : World I) (id : ℕ) (v : View I) (c : List (ℕ × Slot I)) → Good law key w → Knows key w id v
      → Goes w id c 3 (length w.core.state.history) (glanced law (step slots 3 0 0 maybe.none) (v, c) (length w.core.state.history))
  glances slots w id v c good k =
      let s = w.core.state in
      let kept = good.kept in
      let whole : Begins s.history s.history = begins_self s.history in record {
        to = w;
        view = glancing v s.history;
        act = keeps;
        valid = tt;
        good = good;
        mine = record {
          core = record {
            bound = k.core.bound;
            sees = whole;
            hears = k.core.hears;
            reads = k.core.reads;
            plays = k.core.plays;
            holds = holds_all w.core w.core id v.seen s.history v.right refl refl k.core.holds;
          };
          queued = k.queued;
        };
        others = λ j x ne o. o;
        words = refl;
        homes = refl;
        grows = whole;
        tells = (
          s.history,
          refl,
          record {
            count = refl;
            begins = k.core.sees;
            alone = λ is. sym (alone_sees w.core id v.seen v.right is k.core.holds);
            lawful = kept.lawful;
            orderly = runs_are_orderly s kept.reached s.history whole;
            writers = of_writers s w.core.over kept v.writers s.history k.core.bound whole;
            reads = omega (arith, k.core.reads, reached_counts s kept.reached, held_few s.held kept.blocks, kept.writers, kept.few);
          },
        );
      }

  -- the number of positions that were drawn
  pub reads : (slots : ℕ) (w : World I) (id : ℕ) (v : View I) (c : List (ℕ × Slot I)) → Good law key w → Knows key w id v
      → Goes w id c 2 w.core.state.next (read_next (step slots 2 0 0 maybe.none) (v, c) w.core.state.next)
  reads slots w id v c good k =
      let u : View I = record v { read = w.core.state.next; fresh = true } in record {
        to = w;
        view = u;
        act = keeps;
        valid = tt;
        good = good;
        mine = record {
          core = record {
            bound = k.core.bound;
            sees = k.core.sees;
            hears = k.core.hears;
            reads = omega arith;
            plays = plays_on key w.core w.core id v u refl refl
                (λ pk p. record { made = p.made; seat = p.seat; own_is = p.own_is; block = p.block; space = p.space; within = p.within; value = λ f o. good.kept.over_is pk o }) v.who k.core.plays;
            holds = k.core.holds;
          };
          queued = k.queued;
        };
        others = λ j x ne q. q;
        words = refl;
        homes = refl;
        grows = begins_self w.core.state.history;
        tells = (refl, k.core.reads);
      }

  -- what was seen and heard of begins one history
  pub learns : (slots : ℕ) (w : World I) (id : ℕ) (v : View I) (c : List (ℕ × Slot I)) → Good law key w → Knows key w id v
      → Goes w id c 0 w.line.ticket (learned law (step slots 0 0 0 maybe.none) (v, c) w.line.ticket)
  learns slots w id v c good k =
      let h = w.core.state.history in
      let of_pen : (l : List (Stored I)) (pk : ℕ) → Begins l h → v.who ≡ Pen pk → Begins (own l pk) v.own =
      λ l pk b who. subst (Begins (own l pk)) (sym (pen_is key w.core id v pk k.core who).own_is) (begins_own l h pk b) in
      stays w id v c 0 (learned law (step slots 0 0 0 maybe.none) (v, c) w.line.ticket) good k (
        refl,
        record {
          begins = begins_one v.seen v.heard h k.core.sees k.core.hears;
          lawful = keeps_law_front law (longer v.seen v.heard) h (begins_longer v.seen v.heard h k.core.sees k.core.hears) good.kept.lawful;
          orderly = runs_are_orderly w.core.state good.kept.reached (longer v.seen v.heard) (begins_longer v.seen v.heard h k.core.sees k.core.hears);
          writers = of_writers w.core.state w.core.over good.kept v.writers (longer v.seen v.heard) k.core.bound (begins_longer v.seen v.heard h k.core.sees k.core.hears);
          seen = λ pk who. of_pen v.seen pk k.core.sees who;
          heard = λ pk who. of_pen v.heard pk k.core.hears who;
          alone = λ is. longer_whole v.seen v.heard h (alone_sees w.core id v.seen v.right is k.core.holds) k.core.hears;
        },
      )
