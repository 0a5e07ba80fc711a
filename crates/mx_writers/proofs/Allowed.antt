-- What the table of turns asks of each step, and of its start.
use Rattle.std.proofs.Common.{◌≡◌, ◌≢◌, ℕ, zero, suc, ◌+◌, ◌*◌, ◌<◌, eqb, List, [], ◌∷◌, Option, Some, map, length, get_or, set, replicate, refl, sym, ap, ◌∙◌, subst, ⊎_elim, inl, inr, arith}
use Rattle.std.proofs.lemmas.List.{length-map}
use mathlib.Core.Option as maybe
use mathlib.Core.Option.{some-ne-none, some-injective}
use lib.ListN.{get_elem?}
use prog.Atomic.{either}
use Rattle.atomic_table.specs.Seated.{TableId}
use Rattle.atomic_table.specs.Table.{step, Allows, Enters, Valid, homes_after, carried_after, opening}
use Rattle.atomic_table.proofs.Lists.{at_set, at_snoc}
use Rattle.mx_front.specs.declared.view.Turn.TheVariants.{Has}
use Rattle.mx_writers.specs.declared.view.Ask.{Ask}
use Rattle.mx_front.specs.Queue.{Line}
use Rattle.mx_writers.specs.Locks.{words_of, slots_of, Fits, IsGood, Knows, AreGood, Locked, resting}
use Rattle.mx_writers.specs.Tells.{Sat, entered, claimed, came, left}
use Rattle.mx_writers.proofs.Lines.{double, double_is}
use Rattle.mx_writers.proofs.Goes.{Goes, claims, comes, leaves}

view_all : {V : Type 0} (Q : ℕ → V → Type 0) (vs : List V) (id : ℕ) (w : V) → Q id w → ((j : ℕ) (x : V) → j ≢ id → get_elem? vs j ≡ maybe.some x → Q j x)
    → (j : ℕ) (x : V) → get_elem? (set vs id w) j ≡ maybe.some x → Q j x
view_all {V} Q vs id w mine others j x e = ⊎_elim (λ (t : (j ≡ id) × (w ≡ x)). subst (λ (z : ℕ × V). Q z.0 z.1) (λ i. (sym t.0 i, t.1 i)) mine)
    (λ (t : (j ≢ id) × (get_elem? vs j ≡ maybe.some x)). others j x t.0 t.1) (at_set vs id j w x e)

module _ {T : Type 0} (P : ℕ → TableId → T → Type 0) (at : TableId) where
  allowed : (slots id : ℕ) (v : Ask) (c : List (ℕ × Option T)) (i : ℕ) (f : ℕ → ℕ) (told : ℕ → Sat T → Type 0)
      → ((ls : List (Line T)) → length ls ≡ slots → AreGood P at ls → Knows at ls id v → Goes P at ls id c i (f (get_or (words_of ls) i 0)) (told (get_or (words_of ls) i 0)))
      → Allows (Locked P at) slots id (v, c) i f told
  allowed slots id v c i f told go s r deep there fits =
      let g = go r.lines (sym (length-map r.lines (λ l. l.slot)) ∙ sym (ap length r.homes) ∙ deep) r.good (r.knows id v there) in (
        g.view,
        g.act,
        subst (λ hs. Valid hs c g.act) (sym r.homes) g.valid,
        record {
          lines = g.to;
          words = ap (λ ws. set ws i (f (get_or ws i 0))) r.words ∙ g.words;
          homes = ap (λ hs. homes_after hs c g.act) r.homes ∙ g.homes;
          good = g.good;
          knows = view_all (Knows at g.to) s.views id g.view g.mine (λ j x ne e. g.others j x ne (r.knows j x e));
        },
        subst (λ ws. told (get_or ws i 0) (g.view, carried_after c g.act)) (sym r.words) g.tells,
      )

  pub claims_at : (slots id old k i : ℕ) (m : Sat T) → k < slots → i ≡ 2 * k
      → Allows (Locked P at) slots id m i (λ n. either (eqb n old) (old + 1) n) (claimed (step slots i old (old + 1) maybe.none) m)
  claims_at slots id old k i m lt word =
      subst (λ w. Allows (Locked P at) slots id m w (λ n. either (eqb n old) (old + 1) n) (claimed (step slots w old (old + 1) maybe.none) m)) (sym (word ∙ double_is k))
      (allowed slots id m.0 m.1 (double k) (λ n. either (eqb n old) (old + 1) n) (claimed (step slots (double k) old (old + 1) maybe.none) m)
      (λ ls count. claims P at slots ls id old k m.0 m.1 (omega (arith, lt, count))))

  pub comes_at : (slots id i : ℕ) (m : Sat T) → i ≡ 2 * m.0.writer + 1 → Allows (Locked P at) slots id m i (λ n. n) (came P (step slots i 0 0 maybe.none) m)
  comes_at slots id i m word =
      subst (λ w. Allows (Locked P at) slots id m w (λ n. n) (came P (step slots w 0 0 maybe.none) m)) (let d : 2 * m.0.writer ≡ double m.0.writer = double_is m.0.writer in omega (arith, d, word))
      (allowed slots id m.0 m.1 (suc (double m.0.writer)) (λ n. n) (came P (step slots (suc (double m.0.writer)) 0 0 maybe.none) m)
      (λ ls count. comes P at slots ls id m.0 m.1))

  pub leaves_at : (slots id t i : ℕ) (m : Sat T) (x : T) → i ≡ 2 * m.0.writer + 1 → m.1 ≡ (m.0.writer, Some x) ∷ [] → m.0.turn ≡ Has t → P m.0.writer m.0.at x
      → Allows (Locked P at) slots id m i (λ _. t + 1) (λ _. left (step slots i (t + 1) 0 maybe.none) m (t + 1))
  leaves_at slots id t i m x word hand turn fits =
      subst (λ w. Allows (Locked P at) slots id m w (λ _. t + 1) (λ _. left (step slots w (t + 1) 0 maybe.none) m (t + 1))) (let d : 2 * m.0.writer ≡ double m.0.writer = double_is m.0.writer in omega (arith, d, word))
      (subst (λ c. Allows (Locked P at) slots id (m.0, c) (suc (double m.0.writer)) (λ _. t + 1) (λ _. left (step slots (suc (double m.0.writer)) (t + 1) 0 maybe.none) (m.0, c) (t + 1))) (sym hand)
      (allowed slots id m.0 ((m.0.writer, Some x) ∷ []) (suc (double m.0.writer)) (λ _. t + 1) (λ _. left (step slots (suc (double m.0.writer)) (t + 1) 0 maybe.none) (m.0, (m.0.writer, Some x) ∷ []) (t + 1))
      (λ ls count. leaves P at slots t ls id m.0 x turn fits)))

  -- a new seat
  pub enters_at : (slots i : ℕ) → Enters (Locked P at) slots i (λ n w. entered {T = T} (step slots i 0 0 maybe.none) (resting at, []) n (w, []))
  enters_at slots i s r deep fits = (
    resting at,
    record {
      lines = r.lines;
      words = r.words;
      homes = r.homes;
      good = r.good;
      knows = λ j x e. elim (at_snoc s.views (resting at) x j e) [
        | inl before ↦ r.knows j x before
        | inr last ↦ subst (Knows at r.lines j) last (record { stream = refl; asks = tt })
      ];
    },
    refl,
  )

  -- the queues at the start
  abbrev line_for : Option T → Line T
  line_for o = record { ticket = 0; serving = 0; slot = maybe.some o; ticket_of = λ t. 0 }

  words_start : (xs : List (Option T)) → words_of (map line_for xs) ≡ replicate (double (length xs)) 0
  words_start [] = refl
  words_start (o ∷ xs) = ap (λ ws. 0 ∷ 0 ∷ ws) (words_start xs)

  homes_start : (xs : List (Option T)) → map maybe.some xs ≡ slots_of (map line_for xs)
  homes_start [] = refl
  homes_start (o ∷ xs) = ap (λ hs. maybe.some o ∷ hs) (homes_start xs)

  good_start : (xs : List (Option T)) → ((k : ℕ) (o : Option T) → get_elem? xs k ≡ maybe.some o → Fits (P k at) (maybe.some o)) → AreGood P at (map line_for xs)
  good_start xs all k l e = let o = from xs k l e in subst (IsGood (P k at)) o.2 (record { ordered = omega arith; ready = λ same. tt; fits = all k o.0 o.1 })
    where
      from : (ys : List (Option T)) (j : ℕ) (y : Line T) → get_elem? (map line_for ys) j ≡ maybe.some y → (o : Option T) × (get_elem? ys j ≡ maybe.some o) × (line_for o ≡ y)
      from [] j y e = absurd (some-ne-none y (sym e))
      from (o ∷ ys) zero y e = (o, refl, some-injective (line_for o) y e)
      from (o ∷ ys) (suc j) y e = from ys j y e

  pub opens : (xs : List (Option T)) (n : ℕ) → length xs ≡ n → ((k : ℕ) (o : Option T) → get_elem? xs k ≡ maybe.some o → Fits (P k at) (maybe.some o))
      → Locked P at (opening (replicate (2 * n) 0) xs (resting at))
  opens xs n count all = record {
    lines = map line_for xs;
    words = ap (λ m. replicate m 0) (double_is n ∙ ap double (sym count)) ∙ sym (words_start xs);
    homes = homes_start xs;
    good = good_start xs all;
    knows = first;
  }
    where
      first : (j : ℕ) (x : Ask) → get_elem? (resting at ∷ []) j ≡ maybe.some x → Knows at (map line_for xs) j x
      first zero x e = subst (Knows at (map line_for xs) zero) (some-injective (resting at) x e) (record { stream = refl; asks = tt })
      first (suc j) x e = absurd (some-ne-none x (sym e))
