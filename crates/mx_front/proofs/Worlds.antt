-- Functions with one value changed, the writers past the stop, lists that begin one history, and the stores of one writer.
use Rattle.std.proofs.Common.{◌≡◌, ◌≢◌, ℕ, zero, suc, ◌+◌, ◌*◌, ◌<◌, ◌≤◌, Bool, true, false, eqb, nat_eq, if◌then◌else◌, List, [], ◌∷◌, ◌++◌, Option, None, length, append-nil, get_or, take, drop, refl, sym, ap, ◌∙◌, inl, inr, leb, arith}
use Rattle.std.proofs.lemmas.Bool.{cases_Bool, cases_eq, cases_lt, or_cases, or_left, or_right, eq-eqb, ne_eqb}
use Rattle.std.proofs.lemmas.List.{take-append-drop, take-append-le}
use Rattle.std.proofs.Math.Seq.{take-append_seam}
use Rattle.mx_core.specs.Limits.{most_writers, most_drawn}
use Rattle.mx_core.specs.declared.history.Stored.{Stored}
use Rattle.mx_core.specs.declared.machine.Block.{Block}
use Rattle.mx_core.specs.History.{own, is_stored, Begins}
use Rattle.mx_core.specs.State.{count_of, held_count}
use Rattle.mx_core.proofs.Histories.{is_stored-append}
use Rattle.mx_front.specs.Told.{longer, shorter}
use Rattle.mx_front.specs.World.{passed}

module _ {A : Type 0} where
  abbrev pub change : (ℕ → A) → ℕ → A → ℕ → A
  change f k c j = if nat_eq j k then c else f j

  pub change_here : (f : ℕ → A) (k : ℕ) (c : A) (j : ℕ) → j ≡ k → change f k c j ≡ c
  change_here f k c j e = rw (eq-eqb j k e) refl

  pub change_else : (f : ℕ → A) (k : ℕ) (c : A) (j : ℕ) → j ≢ k → change f k c j ≡ f j
  change_else f k c j ne = rw (ne_eqb j k ne) refl

-- the writers past the stop
pub passed_le : (over : ℕ → Bool) (n : ℕ) → passed over n ≤ n
passed_le over zero = omega arith
passed_le over (suc n) = let le : passed over n ≤ n = passed_le over n in elim (cases_Bool (over n)) [
  | inl is ↦ rw is (omega arith)
  | inr not ↦ rw not (omega arith)
]

passed_else : (over : ℕ → Bool) (k n : ℕ) (b : Bool) → n ≤ k → passed (change over k b) n ≡ passed over n
passed_else over k zero b le = refl
passed_else over k (suc n) b le = rw (change_else over k b n (λ e. omega arith), passed_else over k n b (omega arith)) refl

passed_more : (over : ℕ → Bool) (k n : ℕ) → k < n → over k ≡ false → passed (change over k true) n ≡ passed over n + 1
passed_more over k zero lt is = absurd (omega arith)
passed_more over k (suc n) lt is = elim (cases_eq n k) [
  | inl same ↦
      let was : over n ≡ false = ap over same ∙ is in
      rw (change_here over k true n same, passed_else over k n true (omega arith), was) (omega arith)
  | inr other ↦
      let e : passed (change over k true) n ≡ passed over n + 1 = passed_more over k n (omega arith) is in
      rw (change_else over k true n other, e) (omega arith)
]

-- the writer k draws, so that so many positions were drawn afterwards
pub record Passing (over : ℕ → Bool) (stop k after : ℕ) : Type 0 where
  pub now : ℕ → Bool
  pub bound : after ≤ stop + most_drawn * passed now most_writers
  pub is : (j : ℕ) → now j ≡ true → stop ≤ after
  pub others : (j : ℕ) → j ≢ k → now j ≡ over j

pub passing : (over : ℕ → Bool) (stop k next n : ℕ) → k < most_writers → n ≤ most_drawn → over k ≡ false → next ≤ stop + most_drawn * passed over most_writers → ((j : ℕ) → over j ≡ true → stop ≤ next)
    → Passing over stop k (next + n)
passing over stop k next n lt small not bound is = elim (cases_lt (next + n) stop) [
  | inl below ↦ record { now = over; bound = omega arith; is = λ j o. let le : stop ≤ next = is j o in omega arith; others = λ j ne. refl }
  | inr past ↦
      let more : passed (change over k true) most_writers ≡ passed over most_writers + 1 = passed_more over k most_writers lt not in
      record { now = change over k true; bound = omega (arith, more, bound, small); is = λ j o. past; others = λ j ne. change_else over k true j ne }
]

-- short blocks
pub held_few : (held : List (Option Block)) → ((k : ℕ) → count_of (get_or held k None) ≤ most_drawn) → held_count held ≤ most_drawn * length held
held_few [] all = omega arith
held_few (o ∷ held) all =
    let first : count_of o ≤ most_drawn = all zero in
    let others : held_count held ≤ most_drawn * length held = held_few held (λ k. all (suc k)) in
    omega arith

-- beginnings of one history
module _ {A : Type 0} where
  pub no_rest : (xs rest : List A) → length rest ≡ 0 → xs ++ rest ≡ xs
  no_rest xs [] e = append-nil xs
  no_rest xs (x ∷ rest) e = absurd (omega arith)

  pub begins_both : (xs ys h : List A) → Begins xs h → Begins ys h → length xs ≤ length ys → Begins xs ys
  begins_both xs ys h a b le =
      let front : take (length xs) ys ≡ xs = sym (take-append-le (length xs) ys b.0 le) ∙ ap (take (length xs)) (sym b.1 ∙ a.1) ∙ take-append_seam xs a.0 in
      (drop (length xs) ys, sym (take-append-drop (length xs) ys) ∙ ap (λ l. l ++ drop (length xs) ys) front)

  pub begins_longer : (xs ys h : List A) → Begins xs h → Begins ys h → Begins (longer xs ys) h
  begins_longer xs ys h a b = elim (cases_Bool (leb (length ys) (length xs))) [ inl is ↦ rw is a | inr not ↦ rw not b ]

  pub begins_shorter : (xs ys h : List A) → Begins xs h → Begins ys h → Begins (shorter xs ys) h
  begins_shorter xs ys h a b = elim (cases_Bool (leb (length ys) (length xs))) [ inl is ↦ rw is b | inr not ↦ rw not a ]

  pub shorter_longer : (xs ys : List A) → length (shorter xs ys) ≤ length (longer xs ys)
  shorter_longer xs ys = elim (cases_Bool (leb (length ys) (length xs))) [
    | inl is ↦ rw is (Rattle.std.proofs.lemmas.Bool.leb-true (length ys) (length xs) is)
    | inr not ↦ let lt : length xs < length ys = Rattle.std.proofs.lemmas.Bool.leb-false (length ys) (length xs) not in rw not (omega arith)
  ]

  pub begins_one : (xs ys h : List A) → Begins xs h → Begins ys h → Begins (shorter xs ys) (longer xs ys)
  begins_one xs ys h a b = begins_both (shorter xs ys) (longer xs ys) h (begins_shorter xs ys h a b) (begins_longer xs ys h a b) (shorter_longer xs ys)

-- the stores of one writer are among those of the history
module _ {I : Type 0} where
  pub stored_own : (h : List (Stored I)) (k p : ℕ) → is_stored (own h k) p ≡ true → is_stored h p ≡ true
  stored_own [] k p e = e
  stored_own (s ∷ h) k p e = elim (cases_Bool (eqb s.writer k)) [
    | inl is ↦ elim (or_cases (is_stored (s ∷ []) p) (is_stored (own h k) p) (sym (is_stored-append (s ∷ []) (own h k) p) ∙ rw is at e)) [
      | inl here ↦ is_stored-append (s ∷ []) h p ∙ or_left (is_stored (s ∷ []) p) (is_stored h p) here
      | inr later ↦ is_stored-append (s ∷ []) h p ∙ or_right (is_stored (s ∷ []) p) (is_stored h p) (stored_own h k p later)
    ]
    | inr not ↦ is_stored-append (s ∷ []) h p ∙ or_right (is_stored (s ∷ []) p) (is_stored h p) (stored_own h k p (rw not at e))
  ]

  pub length_own : (h : List (Stored I)) (k : ℕ) → length (own h k) ≤ length h
  length_own [] k = omega arith
  length_own (s ∷ h) k = let le : length (own h k) ≤ length h = length_own h k in elim (cases_Bool (eqb s.writer k)) [
    | inl is ↦ rw is (omega arith)
    | inr not ↦ rw not (omega arith)
  ]
