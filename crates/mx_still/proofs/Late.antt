-- Whether one of the items behind the first so many passes, of two lists.
use Rattle.std.proofs.Common.{◌≡◌, ℕ, zero, suc, ◌<◌, ◌≤◌, Bool, true, false, not, ◌&&◌, ◌||◌, List, [], ◌∷◌, length, drop, refl, ap, ap₂, sym, ◌∙◌, arith}
use Rattle.std.proofs.lemmas.List.{drop_all}
use Rattle.std.specs.List.{list_any}

or_true : (b : Bool) → (b || true) ≡ true
or_true true = refl
or_true false = refl

module _ {E : Type 0} (test : E → Bool) where
  whole : (p : ℕ) (es : List E) → list_any test (drop p es) ≡ true → list_any test es ≡ true
  whole zero es found = found
  whole (suc p) [] found = found
  whole (suc p) (e ∷ es) found = ap (λ b. test e || b) (whole p es found) ∙ or_true (test e)

  -- behind fewer it is found too
  pub earlier : (q p : ℕ) (es : List E) → q ≤ p → list_any test (drop p es) ≡ true → list_any test (drop q es) ≡ true
  earlier zero p es up found = whole p es found
  earlier (suc q) zero es up found = absurd (omega (arith, up))
  earlier (suc q) (suc p) [] up found = found
  earlier (suc q) (suc p) (e ∷ es) up found = earlier q p es (omega (arith, up)) found

  -- behind more than there are is behind all
  pub clamped : (n m : ℕ) (es : List E) → m ≤ n → m ≤ length es → (m < n → length es ≤ m) → list_any test (drop m es) ≡ list_any test (drop n es)
  clamped zero zero es low within past = refl
  clamped (suc n) zero [] low within past = refl
  clamped (suc n) zero (e ∷ es) low within past = absurd (omega (arith, past (omega arith)))
  clamped zero (suc m) es low within past = absurd (omega (arith, low))
  clamped (suc n) (suc m) [] low within past = refl
  clamped (suc n) (suc m) (e ∷ es) low within past = clamped n m es (omega (arith, low)) (omega (arith, within)) (λ less. omega (arith, past (omega (arith, less))))

module _ {E R : Type 0} (test_e : E → Bool) (test_r : R → Bool) (es : List E) (rs : List R) where
  abbrev either : ℕ → ℕ → Bool
  either p q = list_any test_e (drop p es) || list_any test_r (drop q rs)

  none_left : (p q : ℕ) → length es ≤ p → length rs ≤ q → either p q ≡ false
  none_left p q up on = ap₂ (λ (a : List E) (b : List R). list_any test_e a || list_any test_r b) (drop_all p es up) (drop_all q rs on)

  either_earlier : (p q r s : ℕ) → r ≤ p → s ≤ q → either p q ≡ true → either r s ≡ true
  either_earlier p q r s up on found = go (list_any test_e (drop p es)) refl found
    where
      go : (b : Bool) → list_any test_e (drop p es) ≡ b → (b || list_any test_r (drop q rs)) ≡ true → either r s ≡ true
      go true is found = ap (λ b. b || list_any test_r (drop s rs)) (earlier test_e r p es up is)
      go false is found = ap (λ b. list_any test_e (drop r es) || b) (earlier test_r s q rs on found) ∙ or_true (list_any test_e (drop r es))

  -- found behind the later places or between both, or behind the earlier ones at all
  pub first_late : (p q late_e late_r e r : ℕ) (b : Bool) → e ≤ late_e → r ≤ late_r → b ≡ true → (b || either p q) ≡ either late_e late_r → either e r ≡ true
  first_late p q late_e late_r e r b up on found is = either_earlier late_e late_r e r up on (sym is ∙ ap (λ b. b || either p q) found)

  pub then_early : (p q late_e late_r e r : ℕ) (a b : Bool) → length es ≤ p → length rs ≤ q → b ≡ false → (b || either p q) ≡ either late_e late_r → (a || either late_e late_r) ≡ either e r → a ≡ either e r
  then_early p q late_e late_r e r a b all_e all_r none is early =
      sym (ap (λ c. a || c) (sym is ∙ ap (λ b. b || either p q) none ∙ none_left p q all_e all_r) ∙ or_false a) ∙ early
    where
      or_false : (b : Bool) → (b || false) ≡ b
      or_false true = refl
      or_false false = refl

  -- and nothing of one's own came
  pub still : (n k e r : ℕ) (found own : Bool) → e ≤ n → e ≤ length es → (e < n → length es ≤ e) → r ≤ k → r ≤ length rs → (r < k → length rs ≤ r) → found ≡ either e r → own ≡ true
      → not found ≡ (not (list_any test_e (drop n es)) && (not (list_any test_r (drop k rs)) && own))
  still n k e r found own low_e within_e past_e low_r within_r past_r is none =
      ap not (is ∙ ap₂ (λ a b. a || b) (clamped test_e n e es low_e within_e past_e) (clamped test_r k r rs low_r within_r past_r))
      ∙ both (list_any test_e (drop n es)) (list_any test_r (drop k rs)) ∙ ap (λ o. not (list_any test_e (drop n es)) && (not (list_any test_r (drop k rs)) && o)) (sym none)
    where
      both : (a b : Bool) → not (a || b) ≡ (not a && (not b && true))
      both true b = refl
      both false true = refl
      both false false = refl
