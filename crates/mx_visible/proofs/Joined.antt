-- A user's last join, found from the last of its member events back.
use Rattle.std.proofs.Common.{◌≡◌, ℕ, ◌<◌, ◌≤◌, ◌-◌, Bool, true, false, cond, nat_lt, nat_le, ◌&&◌, ◌||◌, List, [], ◌∷◌, Option, Some, None, refl, ap, ap₂, sym, ◌∙◌, arith, subst}
use Rattle.std.proofs.lemmas.Bool.{lt-ltb, le-ltb, le-leb, lt-leb, ltb-true, and_parts}
use Rattle.std.specs.List.{list_any, AllByRecursion}
use Rattle.std.specs.Option.{option_or}
use Rattle.mx_window.specs.Windows.{Ascends, between}
use Rattle.mx_window.specs.Lasts.{last_at, last_of}
use Rattle.mx_window.proofs.Intervals.{between-within, between-none}
use Rattle.mx_window.proofs.Lasts.{last_of-some}
use Rattle.mx_window.proofs.Each.{AllByRecursion-both, AllByRecursion-filter, AllByRecursion-weaker}
use Rattle.mx_window.proofs.Sections.{Ascends-after}

never : {A B : Type 0} (x : A) → ◌≡◌ {A = Option A} None (Some x) → B
never x h = absurd cc

module _ {E : Type 0} (at : E → ℕ) (own joins : E → Bool) where
  abbrev both : E → Bool
  both e = own e && joins e

  -- none of its own, so none by which it joins
  pub no_own : (es : List E) → last_of own es ≡ None → last_of both es ≡ None
  no_own [] none = refl
  no_own (e ∷ es) none = by_last (last_of own es) refl (own e) refl (no_own es) none where
    by_last : (o : Option E) → last_of own es ≡ o → (b : Bool) → own e ≡ b → (last_of own es ≡ None → last_of both es ≡ None)
        → option_or (last_of own es) (cond (own e) (Some e) None) ≡ None → option_or (last_of both es) (cond (own e && joins e) (Some e) None) ≡ None
    by_last (Some d) is b own_is rest none = never d (sym (ap (λ (x : Option E). option_or x (cond (own e) (Some e) None)) (sym is) ∙ none))
    by_last None is true own_is rest none = never e (sym (ap₂ (λ (x : Option E) c. option_or x (cond c (Some e) None)) (sym is) (sym own_is) ∙ none))
    by_last None is false own_is rest none = ap₂ (λ (x : Option E) c. option_or x (cond (c && joins e) (Some e) None)) (rest is) own_is

  -- the last of its own joins
  pub own_joins : (es : List E) (e : E) → last_of own es ≡ Some e → joins e ≡ true → last_of both es ≡ Some e
  own_joins [] e is joined = never e is
  own_joins (d ∷ es) e is joined = by_last (last_of own es) refl (own d) refl (λ h. own_joins es e h joined) is where
    by_last : (o : Option E) → last_of own es ≡ o → (b : Bool) → own d ≡ b → (last_of own es ≡ Some e → last_of both es ≡ Some e)
        → option_or (last_of own es) (cond (own d) (Some d) None) ≡ Some e → option_or (last_of both es) (cond (own d && joins d) (Some d) None) ≡ Some e
    by_last (Some f) is_f b own_is rest is =
        ap (λ (x : Option E). option_or x (cond (own d && joins d) (Some d) None)) (rest (is_f ∙ (ap (λ (x : Option E). option_or x (cond (own d) (Some d) None)) (sym is_f) ∙ is)))
    by_last None is_f true own_is rest is =
        let here : ◌≡◌ {A = Option E} (Some d) (Some e) = ap₂ (λ (x : Option E) c. option_or x (cond c (Some d) None)) (sym is_f) (sym own_is) ∙ is in
        let same : d ≡ e = search here in
        ap₂ (λ (x : Option E) c. option_or x (cond c (Some d) None)) (no_own es is_f) (ap₂ (λ a b. a && b) own_is (ap joins same ∙ joined)) ∙ here
    by_last None is_f false own_is rest is = never e (ap₂ (λ (x : Option E) c. option_or x (cond c (Some d) None)) (sym is_f) (sym own_is) ∙ is)

  -- helpers of `back`
  same_last : (d : E) (b : Bool) (xs : List E) (e f : E) → last_of own xs ≡ Some f → last_of own (cond b (d ∷ xs) xs) ≡ Some e → last_of own xs ≡ Some e
  same_last d true xs e f is_f is = is_f ∙ (ap (λ (x : Option E). option_or x (cond (own d) (Some d) None)) (sym is_f) ∙ is)
  same_last d false xs e f is_f is = is

  either : (d : E) (b : Bool) (xs ys : List E) → last_of both xs ≡ last_of both ys → last_of both (cond b (d ∷ xs) xs) ≡ last_of both (cond b (d ∷ ys) ys)
  either d true xs ys same = ap (λ (x : Option E). option_or x (cond (own d && joins d) (Some d) None)) same
  either d false xs ys same = same

  first_own : (o : Option E) (b : Bool) (d e : E) → o ≡ None → option_or o (cond b (Some d) None) ≡ Some e → (b ≡ true) × (d ≡ e)
  first_own (Some f) b d e none is = never f (sym none)
  first_own None true d e none is = (refl, search is)
  first_own None false d e none is = never e is

  after_within : (p : ℕ) (es : List E) (low : ℕ) → Ascends at low es → AllByRecursion (λ (x : E). (low < at x) × (at x ≤ p)) (between at 0 p es)
  after_within p es low up =
      AllByRecursion-both (λ (x : E). low < at x) (λ (x : E). at x ≤ p) (between at 0 p es)
      (AllByRecursion-filter (λ (x : E). low < at x) (λ (x : E). nat_lt 0 (at x) && nat_le (at x) p) es (Ascends-after at low es up))
      (AllByRecursion-weaker (λ (x : E). (0 < at x) × (at x ≤ p)) (λ (x : E). at x ≤ p) (λ x h. h.1) (between at 0 p es) (between-within at 0 p es))

  -- the last of its own doesn't join: what stands before it tells the last join
  pub back : (base p : ℕ) (es : List E) (e : E) → Ascends at base es → last_of own (between at 0 p es) ≡ Some e → joins e ≡ false
      → last_of both (between at 0 (at e - 1) es) ≡ last_of both (between at 0 p es)
  back base p [] e up is joined = never e is
  back base p (d ∷ es) e up is joined = by_last (last_of own (between at 0 p es)) refl (nat_lt 0 (at d) && nat_le (at d) p) refl (λ h. back (at d) p es e up.1 h joined) is where
    positive : 0 < at d
    positive = let above : base < at d = up.0 in omega (arith, above)

    by_last : (o : Option E) → last_of own (between at 0 p es) ≡ o → (b : Bool) → (nat_lt 0 (at d) && nat_le (at d) p) ≡ b
        → (last_of own (between at 0 p es) ≡ Some e → last_of both (between at 0 (at e - 1) es) ≡ last_of both (between at 0 p es))
        → last_of own (cond (nat_lt 0 (at d) && nat_le (at d) p) (d ∷ between at 0 p es) (between at 0 p es)) ≡ Some e
        → last_of both (between at 0 (at e - 1) (d ∷ es)) ≡ last_of both (cond (nat_lt 0 (at d) && nat_le (at d) p) (d ∷ between at 0 p es) (between at 0 p es))
    by_last (Some f) is_f b within rest is =
        let same : last_of own (between at 0 p es) ≡ Some e = same_last d (nat_lt 0 (at d) && nat_le (at d) p) (between at 0 p es) e f is_f is in
        let found = last_of-some (λ (x : E). (at d < at x) × (at x ≤ p)) own (between at 0 p es) e (after_within p es (at d) up.1) same in
        let above : at d < at e = found.1.0 in
        let upto : at e ≤ p = found.1.1 in
        let tests : (nat_lt 0 (at d) && nat_le (at d) (at e - 1)) ≡ (nat_lt 0 (at d) && nat_le (at d) p) =
        ap (λ y. nat_lt 0 (at d) && y) (le-leb (at d) (at e - 1) (omega (arith, above)) ∙ sym (le-leb (at d) p (omega (arith, above, upto)))) in
        ap (λ t. last_of both (cond t (d ∷ between at 0 (at e - 1) es) (between at 0 (at e - 1) es))) tests
        ∙ either d (nat_lt 0 (at d) && nat_le (at d) p) (between at 0 (at e - 1) es) (between at 0 p es) (rest same)
    by_last None is_f true within rest is =
        let here : option_or (last_of own (between at 0 p es)) (cond (own d) (Some d) None) ≡ Some e = subst (λ b. last_of own (cond b (d ∷ between at 0 p es) (between at 0 p es)) ≡ Some e) within is in
        let own_d = first_own (last_of own (between at 0 p es)) (own d) d e is_f here in
        let left : last_of both (between at 0 (at e - 1) (d ∷ es)) ≡ None =
        ap (λ (x : E). last_of both (between at 0 (at x - 1) (d ∷ es))) (sym own_d.1)
        ∙ ap (λ t. last_of both (cond t (d ∷ between at 0 (at d - 1) es) (between at 0 (at d - 1) es))) (ap₂ (λ x y. x && y) (lt-ltb 0 (at d) positive) (lt-leb (at d) (at d - 1) (omega (arith, positive))))
        ∙ ap (last_of both) (between-none at 0 (at d - 1) (at d) es up.1 (omega arith)) in
        let right : last_of both (cond (nat_lt 0 (at d) && nat_le (at d) p) (d ∷ between at 0 p es) (between at 0 p es)) ≡ None =
        ap (λ b. last_of both (cond b (d ∷ between at 0 p es) (between at 0 p es))) within
        ∙ ap₂ (λ (o : Option E) b. option_or o (cond b (Some d) None)) (no_own (between at 0 p es) is_f) (ap₂ (λ x y. x && y) own_d.0 (ap joins own_d.1 ∙ joined)) in
        left ∙ sym right
    by_last None is_f false within rest is = never e (sym is_f ∙ subst (λ b. last_of own (cond b (d ∷ between at 0 p es) (between at 0 p es)) ≡ Some e) within is)

module _ {E : Type 0} (at : E → ℕ) (test : E → Bool) where
  none_below : (n : ℕ) → nat_lt n 0 ≡ false
  none_below n = le-ltb n 0 (omega arith)

  and_no : (b : Bool) → (b && false) ≡ false
  and_no true = refl
  and_no false = refl

  or_true : (b : Bool) → (b || true) ≡ true
  or_true true = refl
  or_true false = refl

  -- an item more before a window in which the last that passes lies at q
  some_after : (d : E) (xs : List E) (w : Bool) (p q : ℕ) → list_any test xs ≡ nat_lt p q → (w ≡ true → nat_lt p q ≡ true) → list_any test (cond w (d ∷ xs) xs) ≡ nat_lt p q
  some_after d xs true p q rest above = ap (λ b. test d || b) (rest ∙ above refl) ∙ or_true (test d) ∙ sym (above refl)
  some_after d xs false p q rest above = rest

  -- an item more before a window in which none passes
  none_after : (d : E) (xs ys : List E) (p : ℕ) (low upto t : Bool) → nat_lt p (at d) ≡ low → test d ≡ t → list_any test xs ≡ false → last_of test ys ≡ None
      → list_any test (cond (low && upto) (d ∷ xs) xs) ≡ nat_lt p (last_at at 0 (last_of test (cond upto (d ∷ ys) ys)))
  none_after d xs ys p low false t is_low is_t none last =
      ap (λ b. list_any test (cond b (d ∷ xs) xs)) (and_no low) ∙ none ∙ sym (ap (λ o. nat_lt p (last_at at 0 o)) last ∙ none_below p)
  none_after d xs ys p true true true is_low is_t none last =
      ap (λ b. b || list_any test xs) is_t ∙ sym (ap₂ (λ o b. nat_lt p (last_at at 0 (option_or o (cond b (Some d) None)))) last is_t ∙ is_low)
  none_after d xs ys p false true true is_low is_t none last =
      none ∙ sym (ap₂ (λ o b. nat_lt p (last_at at 0 (option_or o (cond b (Some d) None)))) last is_t ∙ is_low)
  none_after d xs ys p true true false is_low is_t none last =
      ap₂ (λ b c. b || c) is_t none ∙ sym (ap₂ (λ o b. nat_lt p (last_at at 0 (option_or o (cond b (Some d) None)))) last is_t ∙ none_below p)
  none_after d xs ys p false true false is_low is_t none last =
      none ∙ sym (ap₂ (λ o b. nat_lt p (last_at at 0 (option_or o (cond b (Some d) None)))) last is_t ∙ none_below p)

  last_kept : (d : E) (ys : List E) (w : Bool) (f : E) → last_of test ys ≡ Some f → last_of test (cond w (d ∷ ys) ys) ≡ Some f
  last_kept d ys true f is = ap (λ (o : Option E). option_or o (cond (test d) (Some d) None)) is
  last_kept d ys false f is = is

  -- some item of a window passes where the last one up to its end lies after its begin
  pub any_after : (base p front : ℕ) (es : List E) → Ascends at base es → list_any test (between at p front es) ≡ nat_lt p (last_at at 0 (last_of test (between at 0 front es)))
  any_after base p front [] up = sym (none_below p)
  any_after base p front (d ∷ es) up = by_last (last_of test (between at 0 front es)) refl (any_after (at d) p front es up.1) where
    positive : nat_lt 0 (at d) ≡ true
    positive = let above : base < at d = up.0 in lt-ltb 0 (at d) (omega (arith, above))

    by_last : (o : Option E) → last_of test (between at 0 front es) ≡ o → list_any test (between at p front es) ≡ nat_lt p (last_at at 0 (last_of test (between at 0 front es)))
        → list_any test (between at p front (d ∷ es)) ≡ nat_lt p (last_at at 0 (last_of test (between at 0 front (d ∷ es))))
    by_last (Some f) is rest =
        let found = last_of-some (λ (x : E). at d < at x) test (between at 0 front es) f
        (AllByRecursion-filter (λ (x : E). at d < at x) (λ (x : E). nat_lt 0 (at x) && nat_le (at x) front) es (Ascends-after at (at d) es up.1)) is in
        let above : at d < at f = found.1 in
        some_after d (between at p front es) (nat_lt p (at d) && nat_le (at d) front) p (at f) (rest ∙ ap (λ o. nat_lt p (last_at at 0 o)) is)
        (λ w. let low : p < at d = ltb-true p (at d) (and_parts (nat_lt p (at d)) (nat_le (at d) front) w).0 in lt-ltb p (at f) (omega (arith, low, above)))
        ∙ sym (ap (λ o. nat_lt p (last_at at 0 o)) (last_kept d (between at 0 front es) (nat_lt 0 (at d) && nat_le (at d) front) f is))
    by_last None is rest =
        none_after d (between at p front es) (between at 0 front es) p (nat_lt p (at d)) (nat_le (at d) front) (test d) refl refl (rest ∙ ap (λ o. nat_lt p (last_at at 0 o)) is ∙ none_below p) is
        ∙ ap (λ b. nat_lt p (last_at at 0 (last_of test (cond (b && nat_le (at d) front) (d ∷ between at 0 front es) (between at 0 front es))))) (sym positive)
