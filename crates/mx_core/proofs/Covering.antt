-- What a token covers: the items up to the front, as a list.
use Rattle.std.proofs.Common.{◌≡◌, ◌⊎◌, ℕ, zero, suc, ◌+◌, ◌<◌, ◌≤◌, max, true, List, [], ◌∷◌, ◌++◌, take, drop, length, Option, Some, None, refl, sym, ap, ◌∙◌, subst, inl, inr, arith}
use Rattle.std.specs.List.{slice_get}
use Rattle.std.specs.Option.{option_or, is_some}
use Rattle.std.proofs.lemmas.Option.{same_Some}
use Rattle.std.proofs.Math.Seq.{take-append_seam}
use Rattle.std.proofs.lemmas.List.{take-append-drop, take-take, length-take-le}
use Rattle.mx_core.specs.declared.history.Stored.{Stored}
use Rattle.mx_core.specs.Front.{IsFront}
use Rattle.mx_core.specs.History.{item_of, item_at, is_stored, Begins}
use Rattle.mx_core.proofs.Histories.{front_below, item_kept, item_of_range, same_front}
use Rattle.mx_core.specs.Covered.{reach, with_item, covered_from, covered, front_of, CoversToFront, CoversMore}

module _ {I : Type 0} (h : List (Stored I)) where
  -- the i-th of a run stands at its position
  get_next : (p n i : ℕ) (o : Option I) → item_at h p ≡ o → ((j : ℕ) → j < length (covered_from h (p + 1) n) → slice_get (covered_from h (p + 1) n) j ≡ item_at h (p + 1 + j))
      → i < length (with_item o (covered_from h (p + 1) n)) → slice_get (with_item o (covered_from h (p + 1) n)) i ≡ item_at h (p + i)
  get_next p n i None is rest less = absurd (omega (arith, less))
  get_next p n zero (Some x) is rest less = sym is ∙ ap (item_at h) (omega arith)
  get_next p n (suc i) (Some x) is rest less = rest i (omega (arith, less)) ∙ ap (item_at h) (omega arith)

  run_get : (p n i : ℕ) → i < length (covered_from h p n) → slice_get (covered_from h p n) i ≡ item_at h (p + i)
  run_get p zero i less = absurd (omega (arith, less))
  run_get p (suc n) i less = get_next p n i (item_at h p) refl (λ j. run_get (p + 1) n j) less

  stored_next : (p n q : ℕ) (o : Option I) → item_at h p ≡ o → (p + 1 ≤ q → q < p + 1 + length (covered_from h (p + 1) n) → is_stored h q ≡ true)
      → p ≤ q → q < p + length (with_item o (covered_from h (p + 1) n)) → is_stored h q ≡ true
  stored_next p n q None is rest low high = absurd (omega (arith, low, high))
  stored_next p n q (Some x) is rest low high = elim (first_or p q low) [
    | inl here ↦ ap (λ k. is_some (item_at h k)) (sym here) ∙ ap is_some is
    | inr later ↦ rest later (omega (arith, high))
  ] where
    first_or : (p q : ℕ) → p ≤ q → (p ≡ q) ⊎ (p + 1 ≤ q)
    first_or zero zero h = inl refl
    first_or zero (suc q) h = inr (omega arith)
    first_or (suc p) zero h = absurd (omega (arith, h))
    first_or (suc p) (suc q) h = elim (first_or p q (omega (arith, h))) [
      | inl e ↦ inl (ap suc e)
      | inr l ↦ inr (omega (arith, l))
    ]

  run_stored : (p n q : ℕ) → p ≤ q → q < p + length (covered_from h p n) → is_stored h q ≡ true
  run_stored p zero q low high = absurd (omega (arith, low, high))
  run_stored p (suc n) q low high = stored_next p n q (item_at h p) refl (λ l r. run_stored (p + 1) n q l r) low high

  -- a run goes on as long as all is stored
  long_next : (p n g : ℕ) (o : Option I) → item_at h p ≡ o → is_stored h p ≡ true → (p + 1 ≤ g → g < p + 1 + n → g < p + 1 + length (covered_from h (p + 1) n)) → p ≤ g → g < p + suc n
      → g < p + length (with_item o (covered_from h (p + 1) n))
  long_next p n g None is stored rest low high = absurd (cc (ap is_some is, stored))
  long_next p n g (Some x) is stored rest low high = elim (here_or p g low) [
    | inl here ↦ omega (arith, here)
    | inr later ↦ omega (arith, rest later (omega (arith, high)))
  ] where
    here_or : (p g : ℕ) → p ≤ g → (p ≡ g) ⊎ (p + 1 ≤ g)
    here_or zero zero h = inl refl
    here_or zero (suc q) h = inr (omega arith)
    here_or (suc p) zero h = absurd (omega (arith, h))
    here_or (suc p) (suc q) h = elim (here_or p q (omega (arith, h))) [
      | inl e ↦ inl (ap suc e)
      | inr l ↦ inr (omega (arith, l))
    ]

  run_long : (p n g : ℕ) → ((q : ℕ) → p ≤ q → q ≤ g → is_stored h q ≡ true) → p ≤ g → g < p + n → g < p + length (covered_from h p n)
  run_long p zero g stored low high = absurd (omega (arith, low, high))
  run_long p (suc n) g stored low high =
      long_next p n g (item_at h p) refl (stored p (omega arith) low) (λ l r. run_long (p + 1) n g (λ q l' r'. stored q (omega (arith, l')) r') l r) low high

-- what is stored lies below the reach
reach_by : {I : Type 0} (s : Stored I) (h : List (Stored I)) (p : ℕ) (o : Option I) → item_of s p ≡ o → (is_stored h p ≡ true → p < reach h) → is_some (option_or o (item_at h p)) ≡ true → p < max (s.first + length s.items) (reach h)
reach_by s h p (Some x) is rest e =
    let range : (s.first ≤ p) × (p < s.first + length s.items) = item_of_range s p (ap is_some is) in
    let high : p < s.first + length s.items = range.1 in
    omega arith
reach_by s h p None is rest e = let high : p < reach h = rest e in omega arith

below_reach : {I : Type 0} (h : List (Stored I)) (p : ℕ) → is_stored h p ≡ true → p < reach h
below_reach [] p e = absurd (cc e)
below_reach (s ∷ h) p e = reach_by s h p (item_of s p) refl (λ k. below_reach h p k) e

pub covers_to_front : {I : Type 0} → CoversToFront I
unfolding covered
covers_to_front h = record {
  stored = λ p pos le. run_stored h 1 (reach h) p (omega (arith, pos)) (omega (arith, le));
  greatest = λ g stored. greatest g stored;
} where
  greatest : (g : ℕ) → ((p : ℕ) → 0 < p → p ≤ g → is_stored h p ≡ true) → g ≤ length (covered_from h 1 (reach h))
  greatest zero stored = omega arith
  greatest (suc g) stored =
      let high : suc g < reach h = below_reach h (suc g) (stored (suc g) (omega arith) (omega arith)) in
      let long : suc g < 1 + length (covered_from h 1 (reach h)) = run_long h 1 (reach h) (suc g) (λ q low high. stored q (omega (arith, low)) high) (omega arith) (omega (arith, high)) in
      omega (arith, long)

pub covered_get : {I : Type 0} (h : List (Stored I)) (i : ℕ) → i < length (covered h) → slice_get (covered h) i ≡ item_at h (1 + i)
unfolding covered
covered_get h i less = run_get h 1 (reach h) i less

-- ---- two lists with the same items

pub same_items : {A : Type 0} (xs ys : List A) → length xs ≡ length ys → ((i : ℕ) → i < length xs → slice_get xs i ≡ slice_get ys i) → xs ≡ ys
same_items [] [] h same = refl
same_items [] (y ∷ ys) h same = absurd (omega (arith, h))
same_items (x ∷ xs) [] h same = absurd (omega (arith, h))
same_items (x ∷ xs) (y ∷ ys) h same =
    let first : x ≡ y = same_Some x y (same 0 (omega arith)) in
    let rest : xs ≡ ys = same_items xs ys (omega (arith, h)) (λ i less. same (suc i) (omega (arith, less))) in
    λ i. first i ∷ rest i

slice_get-take : {A : Type 0} (xs : List A) (n i : ℕ) → i < n → slice_get (take n xs) i ≡ slice_get xs i
slice_get-take xs zero i lt = absurd (omega arith)
slice_get-take [] (suc n) i lt = refl
slice_get-take (x ∷ xs) (suc n) zero lt = refl
slice_get-take (x ∷ xs) (suc n) (suc i) lt = slice_get-take xs n i (omega arith)

-- items that stand at the positions from 1 to a front are those covered
pub same_covered : {I : Type 0} (h : List (Stored I)) (front : ℕ) (items : List I) → IsFront h front → length items ≡ front
    → ((i : ℕ) → i < length items → slice_get items i ≡ item_at h (1 + i)) → (items ≡ covered h) × (front ≡ front_of h)
same_covered h front items is few there =
    let same : front ≡ length (covered h) = same_front h front (length (covered h)) is (covers_to_front h) in
    (same_items items (covered h) (few ∙ same) (λ i less. there i less ∙ sym (covered_get h i (omega (arith, less, few, same)))), same)

-- ---- the first so many stores

begins_later : {A : Type 0} (n m : ℕ) (xs : List A) → n ≤ m → take m xs ≡ take n xs ++ drop n (take m xs)
begins_later n m xs up = sym (take-append-drop n (take m xs)) ∙ ap (λ l. l ++ drop n (take m xs)) (take-take n m xs up)

pub front_rises : {I : Type 0} (n m : ℕ) (h : List (Stored I)) → n ≤ m → length (covered (take n h)) ≤ length (covered (take m h))
front_rises n m h up =
    front_below (take n h) (drop n (take m h)) (length (covered (take n h))) (length (covered (take m h))) (covers_to_front (take n h))
    (subst (λ l. IsFront l (length (covered (take m h)))) (begins_later n m h up) (covers_to_front (take m h)))

pub covers_more : {I : Type 0} → CoversMore I
covers_more n h =
    let xs = covered (take n h) in
    let ys = covered h in
    let front = covers_to_front (take n h) in
    let up : length xs ≤ length ys = front_below (take n h) (drop n h) (length xs) (length ys) front (subst (λ l. IsFront l (length ys)) (sym (take-append-drop n h)) (covers_to_front h)) in
    same_items xs (take (length xs) ys) (sym (length-take-le (length xs) ys up))
    (λ i less.
    let here = covered_get (take n h) i less in
    let there = covered_get h i (omega (arith, less, up)) in
    let stays : item_at h (1 + i) ≡ item_at (take n h) (1 + i) =
    ap (λ l. item_at l (1 + i)) (sym (take-append-drop n h)) ∙ item_kept (take n h) (drop n h) (1 + i) (front.stored (1 + i) (omega arith) (omega (arith, less))) in
    here ∙ sym stays ∙ sym there ∙ sym (slice_get-take ys (length xs) i less))

-- a longer history covers as much, and more
pub covered_begins : {I : Type 0} (h longer : List (Stored I)) → Begins h longer → Begins (covered h) (covered longer)
covered_begins h longer b =
    let rest = drop (front_of h) (covered longer) in
    let first : take (length h) longer ≡ h = ap (take (length h)) b.1 ∙ take-append_seam h b.0 in
    let same : covered h ≡ take (front_of h) (covered longer) = subst (λ l. covered l ≡ take (front_of l) (covered longer)) first (covers_more (length h) longer) in
    (rest, sym (ap (λ l. l ++ rest) same ∙ take-append-drop (front_of h) (covered longer)))
