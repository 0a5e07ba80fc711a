-- Items of segments by their places.
use Rattle.std.proofs.Common.{◌≡◌, ℕ, zero, suc, ◌+◌, ◌-◌, ◌*◌, ◌/◌, ◌%◌, ◌≤◌, ◌<◌, true, ◌&&◌, List, [], ◌∷◌, ◌++◌, length, nat_eq, slice_get, slice_index_or, take, append_assoc, append-nil, length-append, refl, sym, ap, ap₂, ◌∙◌, arith}
use Rattle.std.proofs.lemmas.Bool.{and_parts, eqb-true, and_from}
use Rattle.mx_lanes.specs.Segments.{joined, all_full}

plain : (k : ℕ) → 0 + k ≡ k
plain k = omega arith

next : (n k : ℕ) → suc n + k ≡ suc (n + k)
next n k = omega arith

pub rejoined : (i n : ℕ) → n ≤ i / 1024 → n * 1024 + (i - n * 1024) ≡ i
rejoined i n within = omega (arith, within)

pub by_place : (i : ℕ) → i / 1024 * 1024 + i % 1024 ≡ i
by_place i = omega arith

pub small_rest : (i : ℕ) → i % 1024 < 1024
small_rest i = omega arith

module _ {I : Type 0} where
  pub size_at : (full : List (List I)) (q : ℕ) (d : List I) → all_full full ≡ true → q < length full → length (slice_index_or full q d) ≡ 1024
  size_at [] q d all within = absurd (omega (arith, within))
  size_at (s ∷ full) zero d all within = eqb-true (length s) 1024 (and_parts (nat_eq (length s) 1024) (all_full full) all).0
  size_at (s ∷ full) (suc q) d all within = size_at full q d (and_parts (nat_eq (length s) 1024) (all_full full) all).1 (omega (arith, within))

  pub size_joined : (full : List (List I)) → all_full full ≡ true → length (joined full) ≡ length full * 1024
  size_joined [] all = refl
  size_joined (s ∷ full) all =
      let parts = and_parts (nat_eq (length s) 1024) (all_full full) all in
      let here : length s ≡ 1024 = eqb-true (length s) 1024 parts.0 in
      omega (arith, length-append s (joined full), here, size_joined full parts.1)

  pub size_taken : (n : ℕ) (xs : List I) → n ≤ length xs → length (take n xs) ≡ n
  size_taken zero xs within = refl
  size_taken (suc n) [] within = absurd (omega (arith, within))
  size_taken (suc n) (x ∷ xs) within = ap suc (size_taken n xs (omega (arith, within)))

  get_front : (xs ys : List I) (r : ℕ) → r < length xs → slice_get (xs ++ ys) r ≡ slice_get xs r
  get_front [] ys r within = absurd (omega (arith, within))
  get_front (x ∷ xs) ys zero within = refl
  get_front (x ∷ xs) ys (suc r) within = get_front xs ys r (omega (arith, within))

  get_back : (xs ys : List I) (k : ℕ) → slice_get (xs ++ ys) (length xs + k) ≡ slice_get ys k
  get_back [] ys k = ap (slice_get ys) (plain k)
  get_back (x ∷ xs) ys k = ap (slice_get (x ∷ (xs ++ ys))) (next (length xs) k) ∙ get_back xs ys k

  take_front : (xs ys : List I) (r : ℕ) → r ≤ length xs → take r (xs ++ ys) ≡ take r xs
  take_front xs ys zero within = refl
  take_front [] ys (suc r) within = absurd (omega (arith, within))
  take_front (x ∷ xs) ys (suc r) within = ap (λ l. x ∷ l) (take_front xs ys r (omega (arith, within)))

  take_back : (xs ys : List I) (k : ℕ) → take (length xs + k) (xs ++ ys) ≡ xs ++ take k ys
  take_back [] ys k = ap (λ n. take n ys) (plain k)
  take_back (x ∷ xs) ys k = ap (λ n. take n (x ∷ (xs ++ ys))) (next (length xs) k) ∙ ap (λ l. x ∷ l) (take_back xs ys k)

  parted : (s : List I) (ss : List (List I)) → all_full (s ∷ ss) ≡ true → (length s ≡ 1024) × (all_full ss ≡ true)
  parted s ss h = let parts = and_parts (nat_eq (length s) 1024) (all_full ss) h in (eqb-true (length s) 1024 parts.0, parts.1)

  -- the item at a place of a segment
  pub at_full : (full : List (List I)) (tail : List I) (q r : ℕ) (d : List I) → all_full full ≡ true → q < length full → r < 1024 → slice_get (joined full ++ tail) (q * 1024 + r) ≡ slice_get (slice_index_or full q d) r
  at_full [] tail q r d all within small = absurd (omega (arith, within))
  at_full (s ∷ full) tail zero r d all within small =
      let size : length s ≡ 1024 = (parted s full all).0 in
      ap₂ slice_get (append_assoc s (joined full) tail) (plain r) ∙ get_front s (joined full ++ tail) r (omega (arith, size, small))
  at_full (s ∷ full) tail (suc q) r d all within small =
      let size : length s ≡ 1024 = (parted s full all).0 in
      let on : suc q * 1024 + r ≡ length s + (q * 1024 + r) = omega (arith, size) in
      ap₂ slice_get (append_assoc s (joined full) tail) on ∙ get_back s (joined full ++ tail) (q * 1024 + r) ∙ at_full full tail q r d (parted s full all).1 (omega (arith, within)) small

  -- the item at a place after the segments
  pub at_tail : (full : List (List I)) (tail : List I) (k : ℕ) → all_full full ≡ true → slice_get (joined full ++ tail) (length full * 1024 + k) ≡ slice_get tail k
  at_tail [] tail k all = ap (slice_get tail) (plain k)
  at_tail (s ∷ full) tail k all =
      let size : length s ≡ 1024 = (parted s full all).0 in
      let on : suc (length full) * 1024 + k ≡ length s + (length full * 1024 + k) = omega (arith, size) in
      ap₂ slice_get (append_assoc s (joined full) tail) on ∙ get_back s (joined full ++ tail) (length full * 1024 + k) ∙ at_tail full tail k (parted s full all).1

  pub take_full : (full : List (List I)) (tail : List I) (q r : ℕ) (d : List I) → all_full full ≡ true → q < length full → r < 1024 → take (q * 1024 + r) (joined full ++ tail) ≡ joined (take q full) ++ take r (slice_index_or full q d)
  take_full [] tail q r d all within small = absurd (omega (arith, within))
  take_full (s ∷ full) tail zero r d all within small =
      let size : length s ≡ 1024 = (parted s full all).0 in
      ap₂ take (plain r) (append_assoc s (joined full) tail) ∙ take_front s (joined full ++ tail) r (omega (arith, size, small))
  take_full (s ∷ full) tail (suc q) r d all within small =
      let size : length s ≡ 1024 = (parted s full all).0 in
      let on : suc q * 1024 + r ≡ length s + (q * 1024 + r) = omega (arith, size) in
      ap₂ take on (append_assoc s (joined full) tail) ∙ take_back s (joined full ++ tail) (q * 1024 + r)
      ∙ ap (λ l. s ++ l) (take_full full tail q r d (parted s full all).1 (omega (arith, within)) small) ∙ sym (append_assoc s (joined (take q full)) (take r (slice_index_or full q d)))

  pub take_tail : (full : List (List I)) (tail : List I) (k : ℕ) → all_full full ≡ true → take (length full * 1024 + k) (joined full ++ tail) ≡ joined full ++ take k tail
  take_tail [] tail k all = ap (λ n. take n tail) (plain k)
  take_tail (s ∷ full) tail k all =
      let size : length s ≡ 1024 = (parted s full all).0 in
      let on : suc (length full) * 1024 + k ≡ length s + (length full * 1024 + k) = omega (arith, size) in
      ap₂ take on (append_assoc s (joined full) tail) ∙ take_back s (joined full ++ tail) (length full * 1024 + k)
      ∙ ap (λ l. s ++ l) (take_tail full tail k (parted s full all).1) ∙ sym (append_assoc s (joined full) (take k tail))

  pub all_taken : (full : List (List I)) (q : ℕ) → all_full full ≡ true → all_full (take q full) ≡ true
  all_taken full zero all = refl
  all_taken [] (suc q) all = refl
  all_taken (s ∷ full) (suc q) all =
      let parts = and_parts (nat_eq (length s) 1024) (all_full full) all in
      and_from (nat_eq (length s) 1024) (all_full (take q full)) parts.0 (all_taken full q parts.1)

  -- a segment more
  pub joined_more : (full : List (List I)) (s : List I) → joined (full ++ s ∷ []) ≡ joined full ++ s
  joined_more [] s = append-nil s
  joined_more (t ∷ full) s = ap (λ l. t ++ l) (joined_more full s) ∙ sym (append_assoc t (joined full) s)

  pub all_more : (full : List (List I)) (s : List I) → all_full full ≡ true → length s ≡ 1024 → all_full (full ++ s ∷ []) ≡ true
  all_more [] s all size = ap (λ n. nat_eq n 1024 && true) size
  all_more (t ∷ full) s all size =
      let parts = and_parts (nat_eq (length t) 1024) (all_full full) all in
      and_from (nat_eq (length t) 1024) (all_full (full ++ s ∷ [])) parts.0 (all_more full s parts.1 size)

  pub whole_taken : (xs : List I) → take (length xs) xs ≡ xs
  whole_taken [] = refl
  whole_taken (x ∷ xs) = ap (λ l. x ∷ l) (whole_taken xs)

module _ {I : Type 0} where
  whole : (xs : List (List I)) → take (length xs) xs ≡ xs
  whole [] = refl
  whole (x ∷ xs) = ap (λ l. x ∷ l) (whole xs)

  pub tail_fits : (full : List (List I)) (tail : List I) (i : ℕ) → all_full full ≡ true → i ≤ length (joined full ++ tail) → i - length full * 1024 ≤ length tail
  tail_fits full tail i all within = omega (arith, within, length-append (joined full) tail, size_joined full all)

  pub rest_fits : (full : List (List I)) (seg : List I) (q i : ℕ) → all_full full ≡ true → q < length full → seg ≡ slice_index_or full q [] → i % 1024 ≤ length seg
  rest_fits full seg q i all within is =
      let size : length seg ≡ 1024 = ap length is ∙ size_at full q [] all within in
      let small : i % 1024 < 1024 = small_rest i in
      omega (arith, size, small)

  pub cut_full : (full : List (List I)) (tail seg : List I) (i : ℕ) (p : List (List I) × List I) → all_full full ≡ true → i / 1024 < length full → seg ≡ slice_index_or full (i / 1024) []
      → (p.0 ≡ take (i / 1024) full) × (p.1 ≡ take (i % 1024) seg) → joined p.0 ++ p.1 ≡ take i (joined full ++ tail)
  cut_full full tail seg i p all within is h =
      ap₂ (λ (a : List (List I)) b. joined a ++ b) h.0 (h.1 ∙ ap (take (i % 1024)) is)
      ∙ sym (take_full full tail (i / 1024) (i % 1024) [] all within (small_rest i)) ∙ ap (λ n. take n (joined full ++ tail)) (by_place i)

  pub cut_all : (full : List (List I)) (p : List (List I) × List I) (q : ℕ) → all_full full ≡ true → p.0 ≡ take q full → all_full p.0 ≡ true
  cut_all full p q all h = ap all_full h ∙ all_taken full q all

  pub cut_tail : (full : List (List I)) (tail : List I) (i : ℕ) (p : List (List I) × List I) → all_full full ≡ true → length full ≤ i / 1024
      → (p.0 ≡ take (length full) full) × (p.1 ≡ take (i - length full * 1024) tail) → joined p.0 ++ p.1 ≡ take i (joined full ++ tail)
  cut_tail full tail i p all within h =
      ap₂ (λ (a : List (List I)) b. joined a ++ b) (h.0 ∙ whole full) h.1
      ∙ sym (take_tail full tail (i - length full * 1024) all) ∙ ap (λ n. take n (joined full ++ tail)) (rejoined i (length full) within)

  pub front_is : (full : List (List I)) (tail : List I) (n : ℕ) (xs : List I) → joined full ++ tail ≡ take n xs → n ≤ length xs → length (joined full ++ tail) ≡ n
  front_is full tail n xs is within = ap length is ∙ size_taken n xs within
