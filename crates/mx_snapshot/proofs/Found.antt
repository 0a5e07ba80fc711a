-- Items that stand at their positions are found by them, and so are those that pass a test.
use Rattle.std.proofs.Common.{◌≡◌, ℕ, zero, suc, ◌+◌, ◌<◌, ◌≤◌, Bool, true, false, cond, ◌&&◌, List, [], ◌∷◌, ◌++◌, length, Option, Some, None, map, filter, option_map, nat_le, nat_lt, nat_eq, slice_get, slice_index_or, take, drop, ◌-◌, refl, sym, ap, ap₂, subst, ◌∙◌, arith}
use Rattle.std.proofs.lemmas.Bool.{and_parts, eqb-true, lt-ltb}
use Rattle.std.proofs.lemmas.List.{length-take-le}
use Rattle.std.proofs.lemmas.Option.{same_Some}
use Rattle.std.specs.List.{AllByRecursion}
use Rattle.std.specs.List.Sorted.{IsNonDecreasingBy}
use Rattle.std.specs.Option.{option_or, option_to_list}
use Rattle.mx_window.specs.Lasts.{last, last_at, last_of}
use Rattle.mx_window.specs.Windows.{Ascends, stand_from, between}
use Rattle.mx_window.proofs.Intervals.{Ascends-filter, Ascends-stand_from}
use Rattle.mx_window.proofs.Each.{AllByRecursion-filter, filter-same}
use Rattle.mx_snapshot.specs.Lists.{always, itself, one}
use Rattle.mx_snapshot.specs.Looks.{at_position, last_position, looked}

module _ {I : Type 0} where
  pub twice : (p q : I → Bool) (es : List I) → filter p (filter q es) ≡ filter (λ e. q e && p e) es
  twice p q [] = refl
  twice p q (e ∷ es) = by_test (q e) (twice p q es) where
    by_test : (b : Bool) → filter p (filter q es) ≡ filter (λ d. q d && p d) es → filter p (cond b (e ∷ filter q es) (filter q es)) ≡ cond (b && p e) (e ∷ filter (λ d. q d && p d) es) (filter (λ d. q d && p d) es)
    by_test true h = ap (λ l. cond (p e) (e ∷ l) l) h
    by_test false h = h

  -- the item at the position that was found
  abbrev pub in_position : List I → Option ℕ → Option I
  in_position es None = None
  in_position es (Some p) = at_position es p

  -- one item more

  next_take : (es : List I) (p : ℕ) (e : I) → slice_get es p ≡ Some e → take p es ++ e ∷ [] ≡ take (suc p) es
  next_take [] p e is = absurd cc
  next_take (d ∷ es) zero e is = ap (λ o. option_to_list o ++ []) (sym is)
  next_take (d ∷ es) (suc p) e is = ap (λ l. d ∷ l) (next_take es p e is)

  pub take_next : (es : List I) (p : ℕ) (e : I) → at_position es (p + 1) ≡ Some e → take p es ++ e ∷ [] ≡ take (p + 1) es
  take_next es p e is =
      let one : suc p ≡ p + 1 = omega arith in
      next_take es p e (ap (at_position es) one ∙ is) ∙ ap (λ n. take n es) one

  -- a last item among those of a first test is the last that passes both
  pub last_among : (p q : I → Bool) (xs : List I) → last_of p (filter q xs) ≡ last_of (λ e. q e && p e) xs
  last_among p q [] = refl
  last_among p q (x ∷ xs) = by_test (q x) (last_among p q xs) where
    or_none : (o : Option I) → option_or o None ≡ o
    or_none None = refl
    or_none (Some y) = refl

    by_test : (b : Bool) → last_of p (filter q xs) ≡ last_of (λ e. q e && p e) xs → last_of p (cond b (x ∷ filter q xs) (filter q xs)) ≡ option_or (last_of (λ e. q e && p e) xs) (cond (b && p x) (Some x) None)
    by_test true h = ap (λ o. option_or o (cond (p x) (Some x) None)) h
    by_test false h = h ∙ sym (or_none (last_of (λ e. q e && p e) xs))

  pub last_same : (p q : I → Bool) (xs : List I) → AllByRecursion (λ (e : I). p e ≡ q e) xs → last_of p xs ≡ last_of q xs
  last_same p q [] same = refl
  last_same p q (x ∷ xs) same = ap₂ (λ o b. option_or o (cond b (Some x) None)) (last_same p q xs same.1) same.0

  dropped : (P : I → Type 0) (n : ℕ) (xs : List I) → AllByRecursion P xs → AllByRecursion P (drop n xs)
  dropped P zero xs h = h
  dropped P (suc n) [] h = h
  dropped P (suc n) (x ∷ xs) h = dropped P n xs h.1

module _ {I : Type 0} (at : I → ℕ) where
  -- the list has the event at its position
  abbrev pub Found : List I → I → Type 0
  Found es e = at_position es (at e) ≡ Some e

  -- ---- every event of a placed list is found

  found_at : (before es : List I) (e : I) → (at e) ≡ length before + 1 → at_position (before ++ e ∷ es) (at e) ≡ Some e
  found_at before es e is = ap (at_position (before ++ e ∷ es)) (is ∙ one_more (length before)) ∙ at_end before where
    one_more : (n : ℕ) → n + 1 ≡ suc n
    one_more n = omega arith

    at_end : (before : List I) → slice_get (before ++ e ∷ es) (length before) ≡ Some e
    at_end [] = refl
    at_end (d ∷ before) = at_end before

  found_after : (before es : List I) → stand_from at (length before + 1) es ≡ true → AllByRecursion (Found (before ++ es)) es
  found_after before [] placed = tt
  found_after before (e ∷ es) placed =
      let parts = and_parts (nat_eq (at e) (length before + 1)) (stand_from at (length before + 1 + 1) es) placed in
      let here : (at e) ≡ length before + 1 = eqb-true (at e) (length before + 1) parts.0 in
      let longer : length before + 1 + 1 ≡ length (before ++ e ∷ []) + 1 = ap (λ n. n + 1) (sym (pushed before)) in
      let rest = found_after (before ++ e ∷ []) es (subst (λ n. stand_from at n es ≡ true) longer parts.1) in
      (found_at before es e here, subst (λ l. AllByRecursion (Found l) es) (joined before) rest) where
        pushed : (before : List I) → length (before ++ e ∷ []) ≡ length before + 1
        pushed [] = refl
        pushed (d ∷ before) = ap suc (pushed before) ∙ omega arith

        joined : (before : List I) → (before ++ e ∷ []) ++ es ≡ before ++ e ∷ es
        joined [] = refl
        joined (d ∷ before) = ap (λ l. d ∷ l) (joined before)

  place_from : (n : ℕ) (es : List I) (k : ℕ) (e : I) → stand_from at n es ≡ true → slice_get es k ≡ Some e → at e ≡ n + k
  place_from n [] k e placed is = absurd cc
  place_from n (d ∷ es) zero e placed is = ap at (same_Some e d (sym is)) ∙ eqb-true (at d) n (and_parts (nat_eq (at d) n) (stand_from at (n + 1) es) placed).0 ∙ omega arith
  place_from n (d ∷ es) (suc k) e placed is = place_from (n + 1) es k e (and_parts (nat_eq (at d) n) (stand_from at (n + 1) es) placed).1 is ∙ omega arith

  -- the item after so many stands at the next position
  pub next_place : (es : List I) (p n : ℕ) (e : I) → stand_from at 1 es ≡ true → p < length es → n ≡ length (take p es) → at_position es (p + 1) ≡ Some e → at e ≤ n + 1
  next_place es p n e placed within taken is =
      let one : suc p ≡ p + 1 = omega arith in
      let place : at e ≡ 1 + p = place_from 1 es p e placed (ap (at_position es) one ∙ is) in
      let long : length (take p es) ≡ p = length-take-le p es (omega (arith, within)) in
      omega (arith, place, taken, long)

  pub all_found : (es : List I) → stand_from at 1 es ≡ true → AllByRecursion (Found es) es
  all_found es placed = found_after [] es placed

  -- ---- what their positions give

  pub looked_is : (es xs : List I) → AllByRecursion (Found es) xs → looked es (map at xs) ≡ xs
  looked_is es [] found = refl
  looked_is es (x ∷ xs) found = ap₂ (λ (o : Option I) l. option_to_list o ++ l) found.0 (looked_is es xs found.1)

  -- a test of positions is a test of events
  pub filter_positions : (test : ℕ → Bool) (xs : List I) → filter test (map at xs) ≡ map at (filter (λ e. test (at e)) xs)
  filter_positions test [] = refl
  filter_positions test (x ∷ xs) = by_test (test (at x)) (filter_positions test xs) where
    by_test : (b : Bool) → filter test (map at xs) ≡ map at (filter (λ e. test (at e)) xs)
        → cond b ((at x) ∷ filter test (map at xs)) (filter test (map at xs)) ≡ map at (cond b (x ∷ filter (λ e. test (at e)) xs) (filter (λ e. test (at e)) xs))
    by_test true h = ap (λ l. (at x) ∷ l) h
    by_test false h = h

  -- a window of a room
  pub window_is : (es xs : List I) (ps : List ℕ) (low high : ℕ) → ps ≡ map at xs → AllByRecursion (Found es) xs
      → looked es (filter (λ p. nat_le p high) (filter (λ p. nat_lt low p) ps)) ≡ between at low high xs
  window_is es xs ps low high is found =
      ap (λ l. looked es (filter (λ p. nat_le p high) (filter (λ p. nat_lt low p) l))) is
      ∙ ap (λ l. looked es (filter (λ p. nat_le p high) l)) (filter_positions (λ p. nat_lt low p) xs)
      ∙ ap (looked es) (filter_positions (λ p. nat_le p high) (filter (λ e. nat_lt low (at e)) xs))
      ∙ looked_is es (filter (λ e. nat_le (at e) high) (filter (λ e. nat_lt low (at e)) xs))
      (AllByRecursion-filter (Found es) (λ e. nat_le (at e) high) (filter (λ e. nat_lt low (at e)) xs) (AllByRecursion-filter (Found es) (λ e. nat_lt low (at e)) xs found))
      ∙ twice (λ e. nat_le (at e) high) (λ e. nat_lt low (at e)) xs

  -- ---- the last version up to a position

  pub last_mapped : (test : ℕ → Bool) (xs : List I) → last_of test (map at xs) ≡ option_map at (last_of (λ e. test (at e)) xs)
  last_mapped test [] = refl
  last_mapped test (x ∷ xs) = ap (λ o. option_or o (cond (test (at x)) (Some (at x)) None)) (last_mapped test xs) ∙ by_last (last_of (λ e. test (at e)) xs) (test (at x)) where
    by_last : (o : Option I) (b : Bool) → option_or (option_map at o) (cond b (Some (at x)) None) ≡ option_map at (option_or o (cond b (Some x) None))
    by_last None true = refl
    by_last None false = refl
    by_last (Some y) b = refl

  pub last_found : (es : List I) (test : I → Bool) (xs : List I) → AllByRecursion (Found es) xs → in_position es (option_map at (last_of test xs)) ≡ last_of test xs
  last_found es test [] found = refl
  last_found es test (x ∷ xs) found = by_last (last_of test xs) (test x) (last_found es test xs found.1) where
    by_last : (o : Option I) (b : Bool) → in_position es (option_map at o) ≡ o → in_position es (option_map at (option_or o (cond b (Some x) None))) ≡ option_or o (cond b (Some x) None)
    by_last None true h = found.0
    by_last None false h = refl
    by_last (Some y) b h = h

  -- ---- rising

  above_low : (low : ℕ) (xs : List I) (j d : ℕ) → Ascends at low xs → j < length (map at xs) → low < slice_index_or (map at xs) j d
  above_low low [] j d rises within = absurd (omega (arith, within))
  above_low low (x ∷ xs) zero d rises within = rises.0
  above_low low (x ∷ xs) (suc j) d rises within =
      let rest : (at x) < slice_index_or (map at xs) j d = above_low (at x) xs j d rises.1 (omega (arith, within)) in
      let first : low < (at x) = rises.0 in
      omega (arith, rest, first)

  pub rising : (low : ℕ) (xs : List I) → Ascends at low xs → IsNonDecreasingBy itself (map at xs)
  rising low [] rises i j d order within = absurd (omega (arith, within))
  rising low (x ∷ xs) rises zero zero d order within = omega arith
  rising low (x ∷ xs) rises zero (suc j) d order within =
      let rest : (at x) < slice_index_or (map at xs) j d = above_low (at x) xs j d rises.1 (omega (arith, within)) in
      omega (arith, rest)
  rising low (x ∷ xs) rises (suc i) zero d order within = absurd (omega (arith, order))
  rising low (x ∷ xs) rises (suc i) (suc j) d order within = rising (at x) xs rises.1 i j d (omega (arith, order)) (omega (arith, within))

  pub placed_ascends : (es : List I) → stand_from at 1 es ≡ true → Ascends at 0 es
  placed_ascends es placed = Ascends-stand_from at 0 1 es (omega arith) placed

  all_positive : (low last : ℕ) (xs : List I) → Ascends at low xs → AllByRecursion (λ (e : I). nat_le (at e) last ≡ (nat_lt 0 (at e) && nat_le (at e) last)) xs
  all_positive low last [] rises = tt
  all_positive low last (x ∷ xs) rises =
      let above : low < at x = rises.0 in
      let positive : nat_lt 0 (at x) ≡ true = lt-ltb 0 (at x) (omega (arith, above)) in
      (ap (λ b. b && nat_le (at x) last) (sym positive), all_positive (at x) last xs rises.1)

  pub length_positions : (xs : List I) → length (map at xs) ≡ length xs
  length_positions [] = refl
  length_positions (x ∷ xs) = ap suc (length_positions xs)

  drop_positions : (n : ℕ) (xs : List I) → drop n (map at xs) ≡ map at (drop n xs)
  drop_positions zero xs = refl
  drop_positions (suc n) [] = refl
  drop_positions (suc n) (x ∷ xs) = drop_positions n xs

  -- ---- one item more

  pub positions_more : (test : I → Bool) (es : List I) (e : I) → map at (filter test (es ++ e ∷ [])) ≡ map at (filter test es) ++ one (test e) (at e)
  positions_more test [] e = by_test (test e) where
    by_test : (b : Bool) → map at (cond b (e ∷ []) []) ≡ one b (at e)
    by_test true = refl
    by_test false = refl
  positions_more test (d ∷ es) e = by_test (test d) (positions_more test es e) where
    by_test : (b : Bool) → map at (filter test (es ++ e ∷ [])) ≡ map at (filter test es) ++ one (test e) (at e)
        → map at (cond b (d ∷ filter test (es ++ e ∷ [])) (filter test (es ++ e ∷ []))) ≡ map at (cond b (d ∷ filter test es) (filter test es)) ++ one (test e) (at e)
    by_test true h = ap (λ l. at d ∷ l) h
    by_test false h = h

  -- ---- the look-ups, of the items that pass a test, by their positions

  module _ (es : List I) (test : I → Bool) (ps : List ℕ) (placed : stand_from at 1 es ≡ true) (is : ps ≡ map at (filter test es)) where
    found_of : AllByRecursion (Found es) (filter test es)
    found_of = AllByRecursion-filter (Found es) test es (all_found es placed)

    pub test_rises : IsNonDecreasingBy itself ps
    test_rises = subst (IsNonDecreasingBy itself) (sym is) (rising 0 (filter test es) (Ascends-filter at 0 test es (placed_ascends es placed)))

    pub test_window : (low high : ℕ) (qs : List ℕ) (made : List I) → qs ≡ filter (λ p. nat_le p high) (filter (λ p. nat_lt low p) ps) → made ≡ looked es qs → made ≡ between at low high (filter test es)
    test_window low high qs made cut found = found ∙ ap (looked es) cut ∙ window_is es (filter test es) ps low high is found_of

    pub test_ending : (high most : ℕ) (qs : List ℕ) (made : List I) → qs ≡ last most (filter (λ p. nat_le p high) ps) → made ≡ looked es qs → made ≡ last most (between at 0 high (filter test es))
    test_ending high most qs made cut found =
        let xs = filter test es in
        let ys = filter (λ e. nat_le (at e) high) xs in
        let rises = Ascends-filter at 0 test es (placed_ascends es placed) in
        let all = AllByRecursion-filter (Found es) (λ e. nat_le (at e) high) xs found_of in
        found ∙ ap (looked es) (cut ∙ ap (λ l. last most (filter (λ p. nat_le p high) l)) is ∙ ap (last most) (filter_positions (λ p. nat_le p high) xs)
        ∙ ap (λ n. drop (n - most) (map at ys)) (length_positions ys) ∙ drop_positions (length ys - most) ys)
        ∙ looked_is es (last most ys) (dropped (Found es) (length ys - most) ys all)
        ∙ ap (last most) (filter-same (λ e. nat_le (at e) high) (λ e. nat_lt 0 (at e) && nat_le (at e) high) xs (all_positive 0 high xs rises))

    pub test_last : (last : ℕ) (o : Option ℕ) → o ≡ last_of (λ p. nat_le p last) ps → in_position es o ≡ last_of (λ e. (nat_lt 0 (at e) && nat_le (at e) last) && test e) es
    test_last last o found =
        let xs = filter test es in
        let rises = Ascends-filter at 0 test es (placed_ascends es placed) in
        ap (in_position es) (found ∙ ap (last_of (λ p. nat_le p last)) is ∙ last_mapped (λ p. nat_le p last) xs)
        ∙ last_found es (λ e. nat_le (at e) last) xs found_of
        ∙ last_same (λ e. nat_le (at e) last) (λ e. nat_lt 0 (at e) && nat_le (at e) last) xs (all_positive 0 last xs rises)
        ∙ last_among (λ e. nat_lt 0 (at e) && nat_le (at e) last) test es
        ∙ last_same (λ e. test e && (nat_lt 0 (at e) && nat_le (at e) last)) (λ e. (nat_lt 0 (at e) && nat_le (at e) last) && test e) es
        (all_swapped es)
      where
        and_swap : (a b : Bool) → (a && b) ≡ (b && a)
        and_swap true true = refl
        and_swap true false = refl
        and_swap false true = refl
        and_swap false false = refl

        all_swapped : (es : List I) → AllByRecursion (λ (e : I). (test e && (nat_lt 0 (at e) && nat_le (at e) last)) ≡ ((nat_lt 0 (at e) && nat_le (at e) last) && test e)) es
        all_swapped [] = tt
        all_swapped (e ∷ es) = (and_swap (test e) (nat_lt 0 (at e) && nat_le (at e) last), all_swapped es)

    pub test_top : (n : ℕ) → n ≡ last_position itself always ps → n ≡ last_position at test es
    test_top n found =
        found ∙ ap (last_position itself always) is ∙ ap (last_at itself 0) (last_mapped always (filter test es)) ∙ mapped (last_of (λ e. true) (filter test es))
        ∙ ap (last_at at 0) (last_among (λ e. true) test es ∙ last_same (λ e. test e && true) test es (all_plain es)) where
          mapped : (o : Option I) → last_at itself 0 (option_map at o) ≡ last_at at 0 o
          mapped None = refl
          mapped (Some x) = refl

          plain : (b : Bool) → (b && true) ≡ b
          plain true = refl
          plain false = refl

          all_plain : (es : List I) → AllByRecursion (λ (e : I). (test e && true) ≡ test e) es
          all_plain [] = tt
          all_plain (e ∷ es) = (plain (test e), all_plain es)

    pub last_between : (last : ℕ) (o : Option ℕ) → o ≡ last_of (λ p. nat_le p last) ps → in_position es o ≡ last_of test (between at 0 last es)
    last_between last o found = test_last last o found ∙ sym (last_among test (λ e. nat_lt 0 (at e) && nat_le (at e) last) es)
