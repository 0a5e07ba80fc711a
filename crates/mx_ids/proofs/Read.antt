-- Reading a number from the front of a text: what is read is spelled so, and what is spelled so is read.
use Rattle.std.proofs.Common.{◌≡◌, ℕ, zero, suc, ◌+◌, ◌-◌, ◌*◌, ◌/◌, ◌%◌, ◌<◌, ◌≤◌, min, Bool, true, not, cond, leb, eqb, length, List, [], ◌∷◌, ◌++◌, Option, Some, None, refl, sym, ap, ◌∙◌, arith, append_assoc, append-nil}
use Rattle.std.proofs.lemmas.Bool.{cases_lt, cases_Bool, cond-true, cond-false, and_parts, and_from, leb-true, le-leb, eqb-true, eqb-false, eq-eqb, ne_eqb, not-true}
use Rattle.std.proofs.lemmas.Option.{option_and_then_some}
use Rattle.std.specs.Option.{option_and_then}
use mathlib.Core.Logic.{⊎_elim}
use Rattle.mx_ids.specs.Decimal.{numeral, is_digit, digits_behind, number_at}
use Rattle.mx_ids.specs.Mark.{marked_at}
use Rattle.mx_ids.proofs.Numerals.{numeral-zero, numeral_push, numeral_one, numeral_begins}

digit_range : (c : ℕ) → is_digit c ≡ true → (48 ≤ c) × (c ≤ 57)
digit_range c t = let both = and_parts (leb 48 c) (leb c 57) t in (leb-true 48 c both.0, leb-true c 57 both.1)

digit_from : (c : ℕ) → 48 ≤ c → c ≤ 57 → is_digit c ≡ true
digit_from c low high = and_from (leb 48 c) (leb c 57) (le-leb 48 c low) (le-leb c 57 high)

-- a step of the reader, at a number that is cut
cut_step : (most m d : ℕ) → min (min (min m most * 10) most + d) most ≡ min (m * 10 + d) most
cut_step most m d = omega arith

digits_step : (most m c : ℕ) (cs : List ℕ) → is_digit c ≡ true → digits_behind most (min m most) (c ∷ cs) ≡ digits_behind most (min (m * 10 + (c - 48)) most) cs
digits_step most m c cs t =
    cond-true (is_digit c) (digits_behind most (min (min (min m most * 10) most + (c - 48)) most) cs) (min m most, c ∷ cs) t
    ∙ ap (λ n. digits_behind most n cs) (cut_step most m (c - 48))

digits_spell : (most m : ℕ) (text : List ℕ) (p : ℕ × List ℕ) → 0 < m → digits_behind most (min m most) text ≡ p
    → (k : ℕ) × (numeral m ++ text ≡ numeral k ++ p.1) × (p.0 ≡ min k most)
digits_spell most m [] p some e = (m, ap (λ (q : ℕ × List ℕ). numeral m ++ q.1) e, sym (ap (λ (q : ℕ × List ℕ). q.0) e))
digits_spell most m (c ∷ cs) p some e = ⊎_elim
    (λ t.
    let range = digit_range c t in
    let digit : 48 + (c - 48) ≡ c = omega (arith, range.0) in
    let low : c - 48 < 10 = omega (arith, range.1) in
    let rest = digits_spell most (m * 10 + (c - 48)) cs p (omega arith) (sym (digits_step most m c cs t) ∙ e) in (
      rest.0,
      sym (append_assoc (numeral m) (c ∷ []) cs) ∙ ap (λ x. (numeral m ++ x ∷ []) ++ cs) (sym digit) ∙ ap (λ xs. xs ++ cs) (sym (numeral_push m (c - 48) some low)) ∙ rest.1,
      rest.2,
    ))
    (λ f.
    let there = sym (cond-false (is_digit c) (digits_behind most (min (min (min m most * 10) most + (c - 48)) most) cs) (min m most, c ∷ cs) f) ∙ e in
    (m, ap (λ (q : ℕ × List ℕ). numeral m ++ q.1) there, sym (ap (λ (q : ℕ × List ℕ). q.0) there)))
    (cases_Bool (is_digit c))

some_same : {A : Type 0} (x y : A) → ◌≡◌ {A = Option A} (Some x) (Some y) → x ≡ y
some_same x y e = cc

number_spells_at : (most c : ℕ) (cs : List ℕ) (p : ℕ × List ℕ) → cond (eqb c 48) (Some (0, cs)) (cond (is_digit c) (Some (digits_behind most 0 (c ∷ cs))) None) ≡ Some p
    → (k : ℕ) × (c ∷ cs ≡ numeral k ++ p.1) × (p.0 ≡ min k most)
number_spells_at most c cs p e = ⊎_elim
    (λ z.
    let there = some_same (0, cs) p (sym (cond-true (eqb c 48) (Some (0, cs)) (cond (is_digit c) (Some (digits_behind most 0 (c ∷ cs))) None) z) ∙ e) in
    let c_is : c ≡ 48 = eqb-true c 48 z in
    let cut : 0 ≡ min 0 most = omega arith in (
      0,
      ap (λ x. x ∷ cs) c_is ∙ ap (λ xs. xs ++ cs) (sym numeral-zero) ∙ ap (λ (q : ℕ × List ℕ). numeral 0 ++ q.1) there,
      sym (ap (λ (q : ℕ × List ℕ). q.0) there) ∙ cut,
    ))
    (λ other.
    let after = sym (cond-false (eqb c 48) (Some (0, cs)) (cond (is_digit c) (Some (digits_behind most 0 (c ∷ cs))) None) other) ∙ e in
    ⊎_elim
    (λ t.
    let there = some_same (digits_behind most 0 (c ∷ cs)) p (sym (cond-true (is_digit c) (Some (digits_behind most 0 (c ∷ cs))) None t) ∙ after) in
    let range = digit_range c t in
    let positive : 0 < c - 48 = let ne = eqb-false c 48 other in omega (arith, range.0, ne) in
    let digit : 48 + (c - 48) ≡ c = omega (arith, range.0) in
    let low : c - 48 < 10 = omega (arith, range.1) in
    let start : min (c - 48) most ≡ min (min (0 * 10) most + (c - 48)) most = omega arith in
    let step = ap (λ n. digits_behind most n cs) start ∙ sym (cond-true (is_digit c) (digits_behind most (min (min (0 * 10) most + (c - 48)) most) cs) (0, c ∷ cs) t) in
    let rest = digits_spell most (c - 48) cs p positive (step ∙ there) in
    (rest.0, ap (λ x. x ∷ cs) (sym digit) ∙ ap (λ xs. xs ++ cs) (sym (numeral_one (c - 48) positive low)) ∙ rest.1, rest.2))
    (λ f. let there = sym (cond-false (is_digit c) (Some (digits_behind most 0 (c ∷ cs))) None f) ∙ after in absurd (cc))
    (cases_Bool (is_digit c)))
    (cases_Bool (eqb c 48))

pub number_spells : (most : ℕ) (text : List ℕ) (p : ℕ × List ℕ) → number_at most text ≡ Some p → (k : ℕ) × (text ≡ numeral k ++ p.1) × (p.0 ≡ min k most)
number_spells most [] p e = absurd (cc)
number_spells most (c ∷ cs) p e = number_spells_at most c cs p e

pub marked_spells : (most mark : ℕ) (text : List ℕ) (p : ℕ × List ℕ) → marked_at most mark text ≡ Some p → (k : ℕ) × (text ≡ mark ∷ (numeral k ++ p.1)) × (p.0 ≡ min k most)
unfolding marked_at
marked_spells most mark [] p e = absurd (cc)
marked_spells most mark (c ∷ cs) p e = ⊎_elim
    (λ t.
    let found = number_spells most cs p (sym (cond-true (eqb c mark) (number_at most cs) None t) ∙ e) in
    (found.0, (λ i. eqb-true c mark t i ∷ found.1 i), found.2))
    (λ f. let there = sym (cond-false (eqb c mark) (number_at most cs) None f) ∙ e in absurd (cc))
    (cases_Bool (eqb c mark))

-- no digit comes first
abbrev pub ends_number : List ℕ → Bool
ends_number [] = true
ends_number (c ∷ cs) = not (is_digit c)

digits_end : (most n : ℕ) (rest : List ℕ) → ends_number rest ≡ true → digits_behind most n rest ≡ (n, rest)
digits_end most n [] e = refl
digits_end most n (c ∷ cs) e = cond-false (is_digit c) (digits_behind most (min (min (n * 10) most + (c - 48)) most) cs) (n, c ∷ cs) (not-true (is_digit c) e)

digits-numeral : (turns most n : ℕ) (rest : List ℕ) → n ≤ turns → 0 < n → digits_behind most 0 (numeral n ++ rest) ≡ digits_behind most (min n most) rest
digits-numeral zero most n rest le some = absurd (omega arith)
digits-numeral (suc turns) most n rest le some = ⊎_elim
    (λ small.
    let start : min (min (0 * 10) most + (48 + n - 48)) most ≡ min n most = omega arith in
    ap (λ xs. digits_behind most 0 (xs ++ rest)) (numeral_one n some small)
    ∙ cond-true (is_digit (48 + n)) (digits_behind most (min (min (0 * 10) most + (48 + n - 48)) most) rest) (0, (48 + n) ∷ rest) (digit_from (48 + n) (omega arith) (omega arith))
    ∙ ap (λ k. digits_behind most k rest) start)
    (λ large.
    let split : n / 10 * 10 + n % 10 ≡ n = omega arith in
    let value : n / 10 * 10 + (48 + n % 10 - 48) ≡ n = omega arith in
    ap (λ xs. digits_behind most 0 (xs ++ rest)) (ap numeral (sym split) ∙ numeral_push (n / 10) (n % 10) (omega arith) (omega arith))
    ∙ ap (digits_behind most 0) (append_assoc (numeral (n / 10)) ((48 + n % 10) ∷ []) rest)
    ∙ digits-numeral turns most (n / 10) ((48 + n % 10) ∷ rest) (omega arith) (omega arith)
    ∙ digits_step most (n / 10) (48 + n % 10) rest (digit_from (48 + n % 10) (omega arith) (omega arith))
    ∙ ap (λ k. digits_behind most (min k most) rest) value)
    (cases_lt n 10)

pub number-numeral : (most n : ℕ) (rest : List ℕ) → ends_number rest ≡ true → number_at most (numeral n ++ rest) ≡ Some (min n most, rest)
number-numeral most n rest ends = ⊎_elim
    (λ some.
    let front = numeral_begins n n (omega arith) some in
    let all = digits-numeral n most n rest (omega arith) some ∙ digits_end most (min n most) rest ends in
    ap (λ xs. number_at most (xs ++ rest)) front.2
    ∙ cond-false (eqb front.0 48) (Some (0, front.1 ++ rest)) (cond (is_digit front.0) (Some (digits_behind most 0 (front.0 ∷ (front.1 ++ rest)))) None) (ne_eqb front.0 48 (λ e. omega (arith, front.3, e)))
    ∙ cond-true (is_digit front.0) (Some (digits_behind most 0 (front.0 ∷ (front.1 ++ rest)))) None (digit_from front.0 (omega (arith, front.3)) front.4)
    ∙ ap Some (ap (λ xs. digits_behind most 0 (xs ++ rest)) (sym front.2) ∙ all))
    (λ none.
    let z : n ≡ 0 = omega arith in
    let cut : 0 ≡ min n most = omega arith in
    ap (λ k. number_at most (numeral k ++ rest)) z
    ∙ ap (λ xs. number_at most (xs ++ rest)) numeral-zero
    ∙ ap (λ (k : ℕ). Some (k, rest)) cut)
    (cases_lt 0 n)

pub marked-numeral : (most mark n : ℕ) (rest : List ℕ) → ends_number rest ≡ true → marked_at most mark (mark ∷ (numeral n ++ rest)) ≡ Some (min n most, rest)
unfolding marked_at
marked-numeral most mark n rest ends = cond-true (eqb mark mark) (number_at most (numeral n ++ rest)) None (eq-eqb mark mark refl) ∙ number-numeral most n rest ends

-- a further number, and what is made of it
pub then_number : {T : Type 0} (most n : ℕ) (rest : List ℕ) (f : ℕ × List ℕ → Option T) (mark : ℕ) (y : Option T) → ends_number rest ≡ true
    → f (min n most, rest) ≡ y → option_and_then f (marked_at most mark (mark ∷ (numeral n ++ rest))) ≡ y
then_number most n rest f mark y ends e = ap (option_and_then f) (marked-numeral most mark n rest ends) ∙ e

pub last_number : {T : Type 0} (most n : ℕ) (f : ℕ × List ℕ → Option T) (mark : ℕ) (y : Option T)
    → f (min n most, []) ≡ y → option_and_then f (marked_at most mark (mark ∷ numeral n)) ≡ y
last_number most n f mark y e = ap (λ xs. option_and_then f (marked_at most mark (mark ∷ xs))) (sym (append-nil (numeral n))) ∙ then_number most n [] f mark y refl e

-- what stands before a further number
pub number_then : {T : Type 0} (most mark : ℕ) (text : List ℕ) (f : ℕ × List ℕ → Option T) (t : T) → option_and_then f (marked_at most mark text) ≡ Some t
    → (n : ℕ) × (rest : List ℕ) × (text ≡ mark ∷ (numeral n ++ rest)) × (f (min n most, rest) ≡ Some t)
number_then most mark text f t e = option_and_then_some f (marked_at most mark text) t e
    (λ p is here.
    let found = marked_spells most mark text p is in
    (found.0, p.1, found.1, ap (λ n. f (n, p.1)) (sym found.2) ∙ here))

pub no_items : {A : Type 0} (xs : List A) → eqb (length xs) 0 ≡ true → xs ≡ []
no_items [] h = refl
no_items (x ∷ xs) h = absurd (omega (arith, eqb-true (length (x ∷ xs)) 0 h))

-- texts that are the same begin with the same number
pub same_number : (mark n m : ℕ) (xs ys : List ℕ) → ends_number xs ≡ true → ends_number ys ≡ true
    → mark ∷ (numeral n ++ xs) ≡ mark ∷ (numeral m ++ ys) → (n ≡ m) × (xs ≡ ys)
same_number mark n m xs ys ends also same =
    let most = n + m in
    let read : (min n most, xs) ≡ (min m most, ys) = some_same (min n most, xs) (min m most, ys) (sym (marked-numeral most mark n xs ends) ∙ ap (marked_at most mark) same ∙ marked-numeral most mark m ys also) in
    let cut : min n most ≡ min m most = ap (λ (q : ℕ × List ℕ). q.0) read in
    (omega (arith, cut), ap (λ (q : ℕ × List ℕ). q.1) read)

pub same_last_number : (mark n m : ℕ) → mark ∷ numeral n ≡ mark ∷ numeral m → n ≡ m
same_last_number mark n m same =
    (same_number mark n m [] [] refl refl (ap (λ xs. mark ∷ xs) (append-nil (numeral n)) ∙ same ∙ ap (λ xs. mark ∷ xs) (sym (append-nil (numeral m))))).0
