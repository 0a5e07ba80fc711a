-- What a draw asks, and what two seats that meet have seen, over plain values.
use Rattle.std.proofs.Common.{◌≡◌, ℕ, ◌+◌, ◌%◌, ◌^◌, ◌<◌, ◌≤◌, true, List, [], None, length, length-append, leb, max, min, refl, sym, ap, ◌∙◌, subst, inl, inr, arith}
use Rattle.std.proofs.lemmas.Bool.{cases_Bool, leb-true, leb-false}
use mathlib.Core.Option as maybe
use Rattle.atomic_table.specs.Table.{step, Allows}
use Rattle.mx_core.specs.Orderly.{IsOrderly}
use Rattle.mx_core.proofs.Orders.{begins_orderly}
use Rattle.mx_core.specs.History.{own, AreOf, Begins, Law, keeps_law}
use Rattle.mx_core.specs.Limits.{most_drawn}
use Rattle.mx_core.proofs.Histories.{begins_self}
use Rattle.mx_core.proofs.Owns.{begins_own, are_of_front}
use Rattle.mx_front.specs.declared.board.Key.{Key}
use Rattle.mx_front.specs.declared.view.Role.TheVariants.{Pen}
use Rattle.mx_front.specs.declared.view.Turn.TheVariants.{Idle}
use Rattle.mx_front.specs.declared.view.View.{View}
use Rattle.mx_front.specs.World.{Ruled}
use Rattle.mx_front.specs.Told.{Sat, drew, longer, shorter, Learned, reader_of, both, hearing}
use Rattle.mx_front.specs.Calls.{Meets, Notes}
use Rattle.mx_front.proofs.Worlds.{begins_one, no_rest}
use Rattle.mx_front.proofs.Allowed.{draws_at}
use Rattle.mx_front.proofs.Rights.{joined_nothing}

module _ {A : Type 0} where
  -- both lists begin the longer one
  begins_first : (xs ys : List A) → Begins (shorter xs ys) (longer xs ys) → Begins xs (longer xs ys)
  begins_first xs ys b = elim (cases_Bool (leb (length ys) (length xs))) [ inl is ↦ rw is (begins_self xs) | inr not ↦ rw not (rw not at b) ]

  begins_second : (xs ys : List A) → Begins (shorter xs ys) (longer xs ys) → Begins ys (longer xs ys)
  begins_second xs ys b = elim (cases_Bool (leb (length ys) (length xs))) [ inl is ↦ rw is (rw is at b) | inr not ↦ rw not (begins_self ys) ]

  -- in the other order
  begins_turned : (xs ys : List A) → Begins (shorter ys xs) (longer ys xs) → Begins (shorter xs ys) (longer xs ys)
  begins_turned xs ys b = begins_one xs ys (longer ys xs) (begins_second ys xs b) (begins_first ys xs b)

  begins_same : (xs ys : List A) → Begins xs ys → Begins ys xs → xs ≡ ys
  begins_same xs ys a b = sym (a.1 ∙ no_rest xs a.0 (omega (arith, ap length a.1, ap length b.1, length-append xs a.0, length-append ys b.0)))

  -- how long it is
  pub longer_count : (xs ys : List A) → length (longer xs ys) ≡ max (length xs) (length ys)
  longer_count xs ys = elim (cases_Bool (leb (length ys) (length xs))) [
    | inl is ↦ let l : length ys ≤ length xs = leb-true (length ys) (length xs) is in rw is (omega (arith, l))
    | inr not ↦ let l : length xs < length ys = leb-false (length ys) (length xs) not in rw not (omega (arith, l))
  ]

  longer_of : (P : List A → Type 0) (xs ys : List A) → P xs → P ys → P (longer xs ys)
  longer_of P xs ys p q = elim (cases_Bool (leb (length ys) (length xs))) [ inl is ↦ rw is p | inr not ↦ rw not q ]

module _ {I : Type 0} (law : Law I) where
  -- a pen that has read the word below the stop may draw
  pub drawable : (key : Key) (slots id n pk r : ℕ) (m m1 : Sat I) → m1 ≡ (record m.0 { read = r; fresh = true }, m.1) → m.0.who ≡ Pen pk → m.0.block ≡ None → r < key.stop → 0 < n → n ≤ most_drawn → n ≤ m.0.reserve
      → Allows (Ruled law key) slots id m1 2 (λ x. (x + n) % 2 ^ 64) (drew (step slots 2 n 0 maybe.none) m1)
  drawable key slots id n pk r m m1 is who free below pos small space =
      subst (λ (y : Sat I). Allows (Ruled law key) slots id y 2 (λ x. (x + n) % 2 ^ 64) (drew (step slots 2 n 0 maybe.none) y)) (sym is)
      (draws_at law key slots id n pk (record m.0 { read = r; fresh = true }, m.1) who free refl below pos small space)

  -- what a pass knows after a meeting
  pub record HasMet (v u : View I) (m : Sat I) : Type 0 where
    pub rests : (m.0.turn ≡ Idle) × (m.1 ≡ [])
    pub meets : Meets law v u m.0

  pub has_met : (m m1 m2 u u1 : Sat I) → (m.0.turn ≡ Idle) × (m.1 ≡ []) → m1 ≡ (hearing m.0 u.0, m.1) → Learned law (hearing m.0 u.0) → u1 ≡ u → m2 ≡ (both m1.0 u1.0, m1.1) → HasMet m.0 u.0 m2
  has_met m m1 m2 u u1 rests heard l kept joined =
      let xs = m.0.seen in
      let ys = u.0.seen in
      let b = l.begins in
      let least = min (min m.0.writers u.0.writers) u.0.writers in
      let is : m2 ≡ (both (hearing m.0 u.0) u.0, m.1) = joined ∙ (λ i. (both (heard i).0 (kept i).0, (heard i).1)) in
      subst (HasMet m.0 u.0) (sym is) (record {
        rests = rests;
        meets = record {
          seen = refl;
          first = begins_first xs ys b;
          second = begins_second xs ys b;
          lawful = l.lawful;
          orderly = l.orderly;
          fewer = omega arith;
          writers = are_of_front (min m.0.writers u.0.writers) least (longer xs ys) (longer xs ys) (omega arith) (begins_self (longer xs ys)) l.writers;
          read = refl;
          looks = refl;
          right = refl;
          alone = l.alone;
        };
      })

  -- a seat heard of what another has seen
  pub has_heard : (q s p p1 p2 : Sat I) → s ≡ (reader_of q.0, []) → p1 ≡ (hearing p.0 s.0, p.1) → (p2 ≡ p1) × Learned law p1.0 → (p2 ≡ (hearing p.0 q.0, p.1)) × Learned law (hearing p.0 q.0)
  has_heard q s p p1 p2 split joined told =
      let is : p1 ≡ (hearing p.0 q.0, p.1) = joined ∙ (λ i. (hearing p.0 (split i).0, p.1)) in
      (told.0 ∙ is, subst (λ (y : Sat I). Learned law y.0) is told.1)

  -- what a pass knows after a note
  notes : (k : ℕ) (v u : View I) → own v.seen k ≡ v.own → v.who ≡ Pen k → keeps_law law [] v.seen ≡ true → keeps_law law [] u.seen ≡ true → Learned law (hearing v u)
      → Learned law (hearing u (hearing v u)) → Notes law k v u (both (hearing u (hearing v u)) (reader_of (hearing v u)))
  notes k v u complete who pen pass l told =
      let b : Begins (shorter u.seen v.seen) (longer u.seen v.seen) = begins_turned u.seen v.seen l.begins in
      let before : Begins (own u.seen k) v.own = l.heard k who in
      let noted : Begins v.seen (longer u.seen v.seen) = begins_second u.seen v.seen b in
      let few = min v.writers u.writers in
      let least = min (min u.writers (min v.writers u.writers)) (min v.writers u.writers) in
      let within : few ≤ least = omega arith in record {
        first = begins_first u.seen v.seen b;
        second = noted;
        before = before;
        after = longer_of (λ z. Begins v.seen z → own z k ≡ v.own) u.seen v.seen
            (λ c. begins_same (own u.seen k) v.own before (subst (λ z. Begins z (own u.seen k)) complete (begins_own v.seen u.seen k c)))
            (λ c. complete) noted;
        lawful = longer_of (λ z. keeps_law law [] z ≡ true) u.seen v.seen pass pen;
        orderly = longer_of (λ z. IsOrderly z) u.seen v.seen (begins_orderly u.seen (longer v.seen u.seen) (begins_second v.seen u.seen l.begins) l.orderly)
            (begins_orderly v.seen (longer v.seen u.seen) (begins_first v.seen u.seen l.begins) l.orderly);
        fewer = omega arith;
        writers = longer_of (λ z. AreOf (min (min u.writers (min v.writers u.writers)) (min v.writers u.writers)) z) u.seen v.seen
            (are_of_front few least u.seen (longer v.seen u.seen) within (begins_second v.seen u.seen l.begins) l.writers)
            (are_of_front few least v.seen (longer v.seen u.seen) within (begins_first v.seen u.seen l.begins) l.writers);
        read = refl;
        looks = refl;
        right = joined_nothing u.right;
        alone = told.alone;
      }

  -- the pen p hears of what the pass q has seen, the pass of what the pen has, and then the pass is joined to a reader that was split off from the pen
  pub record HasNoted (k : ℕ) (p q m : Sat I) : Type 0 where
    pub rests : (m.0.turn ≡ q.0.turn) × (m.1 ≡ q.1)
    pub notes : Notes law k p.0 q.0 m.0
    pub longer_is : m.0.seen ≡ longer q.0.seen p.0.seen

  pub has_noted : (k : ℕ) (p p1 p2 q q1 q2 q3 t : Sat I) → q1 ≡ q → p1 ≡ (hearing p.0 q.0, p.1) → Learned law (hearing p.0 q.0) → q2 ≡ (hearing q1.0 p1.0, q1.1) → Learned law (hearing q1.0 p1.0) → p2 ≡ p1 → t ≡ (reader_of p2.0, [])
      → q3 ≡ (both q2.0 t.0, q2.1) → own p.0.seen k ≡ p.0.own → p.0.who ≡ Pen k → keeps_law law [] p.0.seen ≡ true → keeps_law law [] q.0.seen ≡ true → HasNoted k p q q3
  has_noted k p p1 p2 q q1 q2 q3 t kept heard first told second same split joined complete who pen pass =
      let e : p1.0 ≡ hearing p.0 q.0 = ap (λ (y : Sat I). y.0) heard in
      let u : t.0 ≡ reader_of (hearing p.0 q.0) = ap (λ (y : Sat I). y.0) split ∙ ap reader_of (ap (λ (y : Sat I). y.0) same ∙ e) in
      let l : Learned law (hearing q.0 (hearing p.0 q.0)) = subst (λ (y : View I × View I). Learned law (hearing y.0 y.1)) (λ i. ((kept i).0, e i)) second in
      let there : q2 ≡ (hearing q.0 (hearing p.0 q.0), q.1) = told ∙ (λ i. (hearing (kept i).0 (e i), (kept i).1)) in
      let is : q3 ≡ (both (hearing q.0 (hearing p.0 q.0)) (reader_of (hearing p.0 q.0)), q.1) = joined ∙ (λ i. (both (there i).0 (u i), (there i).1)) in
      subst (HasNoted k p q) (sym is) (record {
        rests = (refl, refl);
        notes = notes k p.0 q.0 complete who pen pass first l;
        longer_is = refl;
      })
