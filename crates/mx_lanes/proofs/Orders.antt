-- The order of stores by position: what it names, how far it reaches, and what one store more leaves.
use Rattle.std.proofs.Common.{◌≡◌, ◌≢◌, ℕ, ◌+◌, ◌-◌, ◌<◌, ◌≤◌, ◌^◌, ◌⊎◌, zero, suc, true, false, List, [], ◌∷◌, ◌++◌, Option, Some, None, length, get_or, take, drop, min, refl, sym, ap, ◌∙◌, subst, inl, inr, arith}
use Rattle.std.specs.List.{AllByRecursion, slice_get}
use Rattle.std.specs.Option.{option_or, option_to_list, is_some}
use Rattle.std.proofs.lemmas.Bool.{cases_Bool, cases_lt, or_cases, or_right, le-leb, false_from_ne_true, false≢true}
use Rattle.std.proofs.lemmas.Option.{same_Some, none-some, slice_get-get_or, slice_get_within}
use Rattle.std.proofs.lemmas.List.{take-append-drop, take_at, drop_at, drop_all, drop-drop, length-append, length-take, take_min, append_assoc}
use Rattle.mx_core.specs.declared.history.Stored.{Stored}
use Rattle.mx_core.specs.Front.{IsFront}
use Rattle.mx_core.specs.History.{item_of, item_at, is_stored, items_of}
use Rattle.mx_core.proofs.Histories.{item_at-append, is_stored-append, stored_new, stored_still, stored_cases, no_item, item_kept}
use Rattle.mx_lanes.specs.Order.{by_index, Reaches, Ascends, IsReach}

-- items of lists by their place
pub found_at : {A : Type 0} (xs : List A) (i : ℕ) → i < length xs → (x : A) × (slice_get xs i ≡ Some x)
found_at [] i lt = absurd (omega arith)
found_at (x ∷ xs) zero lt = (x, refl)
found_at (x ∷ xs) (suc i) lt = found_at xs i (omega arith)

slice_get-append_left : {A : Type 0} (xs ys : List A) (i : ℕ) → i < length xs → slice_get (xs ++ ys) i ≡ slice_get xs i
slice_get-append_left [] ys i lt = absurd (omega arith)
slice_get-append_left (x ∷ xs) ys zero lt = refl
slice_get-append_left (x ∷ xs) ys (suc i) lt = slice_get-append_left xs ys i (omega arith)

slice_get-append_right : {A : Type 0} (xs ys : List A) (i n : ℕ) → i ≡ length xs + n → slice_get (xs ++ ys) i ≡ slice_get ys n
slice_get-append_right [] ys i n e = ap (slice_get ys) (let same : i ≡ n = omega arith in same)
slice_get-append_right (x ∷ xs) ys zero n e = absurd (omega arith)
slice_get-append_right (x ∷ xs) ys (suc i) n e = slice_get-append_right xs ys i n (omega arith)

pub slice_get-take : {A : Type 0} (xs : List A) (n i : ℕ) → i < n → slice_get (take n xs) i ≡ slice_get xs i
slice_get-take xs zero i lt = absurd (omega arith)
slice_get-take [] (suc n) i lt = refl
slice_get-take (x ∷ xs) (suc n) zero lt = refl
slice_get-take (x ∷ xs) (suc n) (suc i) lt = slice_get-take xs n i (omega arith)

slice_get-drop : {A : Type 0} (xs : List A) (n i : ℕ) → slice_get (drop n xs) i ≡ slice_get xs (n + i)
slice_get-drop xs zero i = ap (slice_get xs) (let e : i ≡ 0 + i = omega arith in e)
slice_get-drop [] (suc n) i = refl
slice_get-drop (x ∷ xs) (suc n) i = slice_get-drop xs n i ∙ ap (slice_get (x ∷ xs)) (let e : suc (n + i) ≡ suc n + i = omega arith in e)

drop_found : {A : Type 0} (xs : List A) (k : ℕ) (x : A) → slice_get xs k ≡ Some x → drop k xs ≡ x ∷ drop (suc k) xs
drop_found [] k x e = absurd (none-some x e)
drop_found (y ∷ xs) zero x e = ap (λ z. z ∷ xs) (same_Some y x e)
drop_found (y ∷ xs) (suc k) x e = drop_found xs k x e

pub take_found : {A : Type 0} (xs : List A) (k : ℕ) (x : A) → slice_get xs k ≡ Some x → take (suc k) xs ≡ take k xs ++ x ∷ []
take_found [] k x e = absurd (none-some x e)
take_found (y ∷ xs) zero x e = ap (λ z. z ∷ []) (same_Some y x e)
take_found (y ∷ xs) (suc k) x e = ap (λ l. y ∷ l) (take_found xs k x e)

take_more_of : {A : Type 0} (xs : List A) (n j : ℕ) → take (n + j) xs ≡ take n xs ++ take j (drop n xs)
take_more_of xs zero j = ap (λ k. take k xs) (let e : 0 + j ≡ j = omega arith in e)
take_more_of [] (suc n) zero = ap (λ k. take k []) (let e : suc n + 0 ≡ suc n = omega arith in e)
take_more_of [] (suc n) (suc j) = ap (λ k. take k []) (let e : suc n + suc j ≡ suc (n + suc j) = omega arith in e)
take_more_of (x ∷ xs) (suc n) j = ap (λ k. take k (x ∷ xs)) (let e : suc n + j ≡ suc (n + j) = omega arith in e) ∙ ap (λ l. x ∷ l) (take_more_of xs n j)

-- what one list leaves space for of the next
pub take_fill : {A : Type 0} (most count : ℕ) (xs ys : List A) → count ≡ min (length ys) (most - length (take most xs)) → take most xs ++ take count ys ≡ take most (xs ++ ys)
take_fill zero count [] ys e = ap (λ n. take n ys) (let none : count ≡ 0 = omega arith in none)
take_fill (suc most) count [] ys e = ap (λ n. take n ys) (let is : count ≡ min (suc most) (length ys) = omega arith in is) ∙ take_min (suc most) ys
take_fill zero count (x ∷ xs) ys e = ap (λ n. take n ys) (let none : count ≡ 0 = omega arith in none)
take_fill (suc most) count (x ∷ xs) ys e = ap (λ l. x ∷ l) (take_fill most count xs ys (omega arith))

-- the stores that an order names
head_named : {I : Type 0} (h : List (Stored I)) (i : ℕ) (is : List ℕ) (s : Stored I) → slice_get h i ≡ Some s → by_index h (i ∷ is) ≡ s ∷ by_index h is
head_named h i is s e = ap (λ (o : Option (Stored _)). option_to_list o ++ by_index h is) e

pub length-by_index : {I : Type 0} (h : List (Stored I)) (order : List ℕ) → AllByRecursion (λ i. i < length h) order → length (by_index h order) ≡ length order
length-by_index h [] valid = refl
length-by_index h (i ∷ is) valid =
    let f = found_at h i valid.0 in
    ap length (head_named h i is f.0 f.1) ∙ ap suc (length-by_index h is valid.1)

pub index_in : {I : Type 0} (h : List (Stored I)) (order : List ℕ) (k i : ℕ) → AllByRecursion (λ i. i < length h) order → k < length order → i ≡ get_or order k i → i < length h
index_in h [] k i valid lt e = absurd (omega arith)
index_in h (j ∷ order) zero i valid lt e = let v : j < length h = valid.0 in omega arith
index_in h (j ∷ order) (suc k) i valid lt e = index_in h order k i valid.1 (omega arith) e

pub named_at : {I : Type 0} (h : List (Stored I)) (order : List ℕ) (k i : ℕ) (x : Stored I) → AllByRecursion (λ i. i < length h) order → k < length order → i ≡ get_or order k i → x ≡ get_or h i x → slice_get (by_index h order) k ≡ Some x
named_at h [] k i x valid lt e is = absurd (omega arith)
named_at h (j ∷ order) zero i x valid lt e is =
    ap (λ l. slice_get l 0) (head_named h j order x (slice_get-get_or h j x valid.0 ∙ ap Some (sym (is ∙ ap (λ n. get_or h n x) e))))
named_at h (j ∷ order) (suc k) i x valid lt e is =
    let f = found_at h j valid.0 in
    ap (λ l. slice_get l (suc k)) (head_named h j order f.0 f.1) ∙ named_at h order k i x valid.1 (omega arith) e is

valid_weaker : (n m : ℕ) (order : List ℕ) → n ≤ m → AllByRecursion (λ i. i < n) order → AllByRecursion (λ i. i < m) order
valid_weaker n m [] le valid = tt
valid_weaker n m (i ∷ order) le valid = let v : i < n = valid.0 in (omega arith, valid_weaker n m order le valid.1)

valid_insert : (n place new : ℕ) (order : List ℕ) → AllByRecursion (λ i. i < n) order → new < n → AllByRecursion (λ i. i < n) (take place order ++ new ∷ drop place order)
valid_insert n zero new order valid lt = (lt, valid)
valid_insert n (suc place) new [] valid lt = (lt, tt)
valid_insert n (suc place) new (i ∷ order) valid lt = (valid.0, valid_insert n place new order valid.1 lt)

longer_named : {I : Type 0} (h : List (Stored I)) (x : Stored I) (order : List ℕ) → AllByRecursion (λ i. i < length h) order → by_index (h ++ x ∷ []) order ≡ by_index h order
longer_named h x [] valid = refl
longer_named h x (i ∷ order) valid =
    ap (λ (o : Option (Stored _)). option_to_list o ++ by_index (h ++ x ∷ []) order) (slice_get-append_left h (x ∷ []) i valid.0)
    ∙ ap (λ l. option_to_list (slice_get h i) ++ l) (longer_named h x order valid.1)

last_named : {I : Type 0} (h : List (Stored I)) (x : Stored I) → slice_get (h ++ x ∷ []) (length h) ≡ Some x
last_named h x = slice_get-append_right h (x ∷ []) (length h) 0 (omega arith)

pub insert_named : {I : Type 0} (h : List (Stored I)) (x : Stored I) (order : List ℕ) (place : ℕ) → AllByRecursion (λ i. i < length h) order → place ≤ length order
    → by_index (h ++ x ∷ []) (take place order ++ length h ∷ drop place order) ≡ take place (by_index h order) ++ x ∷ drop place (by_index h order)
insert_named h x order zero valid le = head_named (h ++ x ∷ []) (length h) order x (last_named h x) ∙ ap (λ l. x ∷ l) (longer_named h x order valid)
insert_named h x [] (suc place) valid le = absurd (omega arith)
insert_named h x (i ∷ order) (suc place) valid le =
    let f = found_at h i valid.0 in
    head_named (h ++ x ∷ []) i _ f.0 (slice_get-append_left h (x ∷ []) i valid.0 ∙ f.1)
    ∙ ap (λ l. f.0 ∷ l) (insert_named h x order place valid.1 (omega arith))
    ∙ sym (ap (λ l. take (suc place) l ++ x ∷ drop (suc place) l) (head_named h i order f.0 f.1))

pub valid_more : {I : Type 0} (h : List (Stored I)) (x : Stored I) (order : List ℕ) (place : ℕ) → AllByRecursion (λ i. i < length h) order → AllByRecursion (λ i. i < length (h ++ x ∷ [])) (take place order ++ length h ∷ drop place order)
valid_more h x order place valid =
    let more : length (h ++ x ∷ []) ≡ length h + 1 = length-append h (x ∷ []) in
    valid_insert (length (h ++ x ∷ [])) place (length h) order (valid_weaker (length h) (length (h ++ x ∷ [])) order (omega arith) valid) (omega arith)

-- one store of several has a position
stored_split : {I : Type 0} (s : Stored I) (ss : List (Stored I)) (p : ℕ) → is_stored (s ∷ ss) p ≡ true → ((s.first ≤ p) × (p < s.first + length s.items)) ⊎ (is_stored ss p ≡ true)
stored_split s ss p e = elim (or_cases (is_stored (s ∷ []) p) (is_stored ss p) (sym (is_stored-append (s ∷ []) ss p) ∙ e)) [
  | inl one ↦ elim (stored_cases [] s p one) [ inl none ↦ absurd (false≢true none) | inr range ↦ inl range ]
  | inr rest ↦ inr rest
]

stored_head : {I : Type 0} (s : Stored I) (ss : List (Stored I)) (p : ℕ) → s.first ≤ p → p < s.first + length s.items → is_stored (s ∷ ss) p ≡ true
stored_head s ss p low high = stored_still (s ∷ []) ss p (stored_new [] s p low high)

stored_tail : {I : Type 0} (s : Stored I) (ss : List (Stored I)) (p : ℕ) → is_stored ss p ≡ true → is_stored (s ∷ ss) p ≡ true
stored_tail s ss p e = is_stored-append (s ∷ []) ss p ∙ or_right (is_stored (s ∷ []) p) (is_stored ss p) e

-- stores without a gap
reaches_le : {I : Type 0} (base f : ℕ) (ss : List (Stored I)) → Reaches base ss f → base ≤ f
reaches_le base f [] r = omega arith
reaches_le base f (s ∷ ss) r = let le : base + length s.items ≤ f = reaches_le (base + length s.items) f ss r.2 in omega arith

pub reaches_stored : {I : Type 0} (base f p : ℕ) (ss : List (Stored I)) → Reaches base ss f → base < p → p ≤ f → is_stored ss p ≡ true
reaches_stored base f p [] r low high = absurd (omega arith)
reaches_stored base f p (s ∷ ss) r low high = elim (cases_lt (base + length s.items) p) [
  | inl above ↦ stored_tail s ss p (reaches_stored (base + length s.items) f p ss r.2 above high)
  | inr within ↦ stored_head s ss p (omega (arith, r.0)) (omega (arith, r.0))
]

pub reaches_within : {I : Type 0} (base f p : ℕ) (ss : List (Stored I)) → Reaches base ss f → is_stored ss p ≡ true → p ≤ f
reaches_within base f p [] r e = absurd (false≢true e)
reaches_within base f p (s ∷ ss) r e = elim (stored_split s ss p e) [
  | inl range ↦ let le : base + length s.items ≤ f = reaches_le (base + length s.items) f ss r.2 in omega (arith, r.0, range.1)
  | inr rest ↦ reaches_within (base + length s.items) f p ss r.2 rest
]

reaches_push : {I : Type 0} (base f : ℕ) (ss : List (Stored I)) (s : Stored I) → Reaches base ss f → s.first ≡ f + 1 → 0 < length s.items → Reaches base (ss ++ s ∷ []) (f + length s.items)
reaches_push base f [] s r is pos = (omega arith, pos, omega arith)
reaches_push base f (t ∷ ss) s r is pos = (r.0, r.1, reaches_push (base + length t.items) f ss s r.2 is pos)

reaches_length : {I : Type 0} (base f : ℕ) (ss : List (Stored I)) → Reaches base ss f → length (items_of ss) + base ≡ f
reaches_length base f [] r = omega arith
reaches_length base f (s ∷ ss) r =
    let rest : length (items_of ss) + (base + length s.items) ≡ f = reaches_length (base + length s.items) f ss r.2 in
    omega (arith, length-append s.items (items_of ss))

item_past : {I : Type 0} (s : Stored I) (ss : List (Stored I)) (p : ℕ) → s.first + length s.items ≤ p → item_at (s ∷ ss) p ≡ item_at ss p
item_past s ss p past = elim (cases_Bool (is_stored (s ∷ []) p)) [
  | inl one ↦ elim (stored_cases [] s p one) [ inl none ↦ absurd (false≢true none) | inr range ↦ absurd (omega (arith, range.1)) ]
  | inr none ↦ item_at-append (s ∷ []) ss p ∙ ap (λ o. option_or o (item_at ss p)) (no_item (s ∷ []) p none)
]

item_here : {I : Type 0} (s : Stored I) (ss : List (Stored I)) (p k : ℕ) → s.first + k ≡ p → k < length s.items → slice_get s.items k ≡ item_at (s ∷ ss) p
item_here s ss p k is lt =
    let f = found_at s.items k lt in
    let le : s.first ≤ p = omega arith in
    let e : p - s.first ≡ k = omega arith in
    let one : item_of s p ≡ Some f.0 = rw (le-leb s.first p le) (ap (slice_get s.items) e ∙ f.1) in
    f.1 ∙ sym (ap (λ o. option_or o (item_at ss p)) one)

pub reaches_items : {I : Type 0} (base f p k : ℕ) (ss : List (Stored I)) → Reaches base ss f → p ≡ base + k + 1 → p ≤ f → slice_get (items_of ss) k ≡ item_at ss p
reaches_items base f p k [] r is le = absurd (omega arith)
reaches_items base f p k (s ∷ ss) r is le = elim (cases_lt k (length s.items)) [
  | inl here ↦ slice_get-append_left s.items (items_of ss) k here ∙ item_here s ss p k (omega (arith, r.0)) here
  | inr past ↦
      slice_get-append_right s.items (items_of ss) k (k - length s.items) (omega arith)
      ∙ reaches_items (base + length s.items) f p (k - length s.items) ss r.2 (omega arith) le
      ∙ sym (item_past s ss p (omega (arith, r.0)))
]

-- stores that lie apart, in order
ascends_weaker : {I : Type 0} (a b : ℕ) (ss : List (Stored I)) → b ≤ a → Ascends a ss → Ascends b ss
ascends_weaker a b [] le w = tt
ascends_weaker a b (s ∷ ss) le w = (omega (arith, w.0), w.1, w.2, w.3)

ascends_above : {I : Type 0} (a p : ℕ) (ss : List (Stored I)) → Ascends a ss → is_stored ss p ≡ true → a < p
ascends_above a p [] w e = absurd (false≢true e)
ascends_above a p (s ∷ ss) w e = elim (stored_split s ss p e) [
  | inl range ↦ omega (arith, w.0, range.0)
  | inr rest ↦ let lt : s.first + length s.items - 1 < p = ascends_above (s.first + length s.items - 1) p ss w.3 rest in omega (arith, w.0)
]

ascends_get : {I : Type 0} (a k : ℕ) (ss : List (Stored I)) (s : Stored I) → Ascends a ss → slice_get ss k ≡ Some s → a < s.first
ascends_get a k [] s w e = absurd (none-some s e)
ascends_get a zero (t ∷ ss) s w e = let is : t.first ≡ s.first = ap (λ x. x.first) (same_Some t s e) in omega (arith, w.0)
ascends_get a (suc k) (t ∷ ss) s w e = let lt : t.first + length t.items - 1 < s.first = ascends_get (t.first + length t.items - 1) k ss s w.3 e in omega (arith, w.0)

first_below : {I : Type 0} (a k n : ℕ) (ss : List (Stored I)) (s : Stored I) → Ascends a ss → slice_get ss k ≡ Some s → s.first ≤ n → AllByRecursion (λ t. t.first ≤ n) (take (suc k) ss)
first_below a k n [] s w e le = absurd (none-some s e)
first_below a zero n (t ∷ ss) s w e le = let is : t.first ≡ s.first = ap (λ x. x.first) (same_Some t s e) in (omega arith, tt)
first_below a (suc k) n (t ∷ ss) s w e le =
    let lt : t.first + length t.items - 1 < s.first = ascends_get (t.first + length t.items - 1) k ss s w.3 e in
    (omega (arith, w.1), first_below (t.first + length t.items - 1) k n ss s w.3 e le)

-- a store that meets none of the others goes between those below it and those above it
between : {I : Type 0} (a : ℕ) (xs ys : List (Stored I)) (x : Stored I) → Ascends a (xs ++ ys)
    → ((p : ℕ) → x.first ≤ p → p < x.first + length x.items → is_stored (xs ++ ys) p ≡ false)
    → AllByRecursion (λ t. t.first ≤ x.first) xs → AllByRecursion (λ t. x.first < t.first) ys
    → a < x.first → 0 < length x.items → x.first + length x.items ≤ 2 ^ 48 → Ascends a (xs ++ x ∷ ys)
between a [] [] x w free below above low pos high = (low, pos, high, tt)
between a [] (y ∷ ys) x w free below above low pos high =
    let gap : x.first + length x.items ≤ y.first = elim (cases_lt y.first (x.first + length x.items)) [
      | inl meets ↦ absurd (false≢true (sym (free y.first (omega (arith, above.0)) meets) ∙ stored_head y ys y.first (omega arith) (omega (arith, w.1))))
      | inr apart ↦ apart
    ] in
    (low, pos, high, (omega arith, w.1, w.2, w.3))
between a (t ∷ xs) ys x w free below above low pos high =
    let gap : t.first + length t.items ≤ x.first = elim (cases_lt x.first (t.first + length t.items)) [
      | inl meets ↦ absurd (false≢true (sym (free x.first (omega arith) (omega arith)) ∙ stored_head t (xs ++ ys) x.first below.0 meets))
      | inr apart ↦ apart
    ] in (
      w.0,
      w.1,
      w.2,
      between (t.first + length t.items - 1) xs ys x w.3
          (λ p l g. false_from_ne_true (is_stored (xs ++ ys) p) (λ e. false≢true (sym (free p l g) ∙ stored_tail t (xs ++ ys) p e)))
          below.1 above (omega (arith, w.0, w.1)) pos high,
    )

-- the front moves past a store that begins after it, and stops before any other
pub reach_more : {I : Type 0} (ss : List (Stored I)) (k f : ℕ) (s : Stored I) → IsReach ss k f 0 → slice_get ss k ≡ Some s → s.first ≡ f + 1 → IsReach ss (k + 1) (f + length s.items) 0
reach_more ss k f s r e is =
    let w = subst (λ l. Ascends (f + 0) l) (drop_found ss k s e) r.waits in
    let next : k + 1 ≡ suc k = omega arith in
    let lt : k < length ss = slice_get_within ss k s e in record {
      within = omega arith;
      reaches = subst (λ l. Reaches 0 l (f + length s.items)) (sym (take_found ss k s e) ∙ ap (λ n. take n ss) (sym next)) (reaches_push 0 f (take k ss) s r.reaches is w.1);
      waits = subst (λ n. Ascends ((f + length s.items) + 0) (drop n ss)) (sym next) (ascends_weaker (s.first + length s.items - 1) ((f + length s.items) + 0) (drop (suc k) ss) (omega arith) w.3);
      below = omega (arith, w.2);
    }

pub reach_stop : {I : Type 0} (ss : List (Stored I)) (k f : ℕ) (s : Stored I) → IsReach ss k f 0 → slice_get ss k ≡ Some s → s.first ≢ f + 1 → IsReach ss k f 1
reach_stop ss k f s r e not =
    let w = subst (λ l. Ascends (f + 0) l) (drop_found ss k s e) r.waits in record {
      within = r.within;
      reaches = r.reaches;
      waits = subst (λ l. Ascends (f + 1) l) (sym (drop_found ss k s e)) (omega (arith, w.0), w.1, w.2, w.3);
      below = r.below;
    }

pub reach_end : {I : Type 0} (ss : List (Stored I)) (k f : ℕ) → IsReach ss k f 0 → length ss ≤ k → IsReach ss k f 1
reach_end ss k f r past = record {
  within = r.within;
  reaches = r.reaches;
  waits = subst (λ l. Ascends (f + 1) l) (sym (drop_all k ss past)) tt;
  below = r.below;
}

pub above_more : {I : Type 0} (ss : List (Stored I)) (place first : ℕ) (s : Stored I) → 0 < place → slice_get ss (place - 1) ≡ Some s → first < s.first
    → AllByRecursion (λ t. first < t.first) (drop place ss) → AllByRecursion (λ t. first < t.first) (drop (place - 1) ss)
above_more ss place first s pos e lt above =
    let next : place ≡ suc (place - 1) = omega arith in
    subst (AllByRecursion (λ t. first < t.first)) (sym (drop_found ss (place - 1) s e)) (lt, subst (λ n. AllByRecursion (λ t. first < t.first) (drop n ss)) next above)

-- the reach with one store more among those that wait
placed : {I : Type 0} (before waits : List (Stored I)) (f j : ℕ) (x : Stored I) → Reaches 0 before f → Ascends (f + 1) waits → f < 2 ^ 48
    → ((p : ℕ) → x.first ≤ p → p < x.first + length x.items → is_stored waits p ≡ false)
    → AllByRecursion (λ t. t.first ≤ x.first) (take j waits) → AllByRecursion (λ t. x.first < t.first) (drop j waits)
    → f < x.first → 0 < length x.items → x.first + length x.items ≤ 2 ^ 48
    → IsReach (before ++ (take j waits ++ x ∷ drop j waits)) (length before) f 0
placed before waits f j x r w low free below above first pos last =
    let e = take-append-drop j waits in record {
      within = omega (arith, length-append before (take j waits ++ x ∷ drop j waits));
      reaches = subst (λ l. Reaches 0 l f) (sym (take_at before (take j waits ++ x ∷ drop j waits) (length before) refl)) r;
      waits = subst (Ascends (f + 0)) (sym (drop_at before (take j waits ++ x ∷ drop j waits) (length before) refl))
          (between (f + 0) (take j waits) (drop j waits) x (subst (Ascends (f + 0)) (sym e) (ascends_weaker (f + 1) (f + 0) waits (omega arith) w))
          (λ p l h. subst (λ ss. is_stored ss p ≡ false) (sym e) (free p l h)) below above (omega arith) pos last);
      below = low;
    }

-- what `place_for` tells of a place
pub record IsPlace {I : Type 0} (ss : List (Stored I)) (passed place first : ℕ) : Type 0 where
  pub low : passed ≤ place
  pub high : place ≤ length ss
  pub above : AllByRecursion (λ s. first < s.first) (drop place ss)
  pub below : (place ≡ passed) ⊎ ((s : Stored I) × (slice_get ss (place - 1) ≡ Some s) × (s.first ≤ first))

waits_below : {I : Type 0} (ss : List (Stored I)) (passed place first a : ℕ) → IsPlace ss passed place first → Ascends a (drop passed ss) → AllByRecursion (λ t. t.first ≤ first) (take (place - passed) (drop passed ss))
waits_below ss passed place first a is w = elim is.below [
  | inl same ↦ subst (λ n. AllByRecursion (λ t. t.first ≤ first) (take n (drop passed ss))) (let e : 0 ≡ place - passed = omega arith in e) tt
  | inr last ↦ elim (cases_lt passed place) [
    | inl lt ↦
        let e : passed + (place - passed - 1) ≡ place - 1 = omega arith in
        let next : suc (place - passed - 1) ≡ place - passed = omega arith in
        subst (λ n. AllByRecursion (λ t. t.first ≤ first) (take n (drop passed ss))) next
        (first_below a (place - passed - 1) first (drop passed ss) last.0 w (slice_get-drop ss passed (place - passed - 1) ∙ ap (slice_get ss) e ∙ last.1) last.2)
    | inr ge ↦ subst (λ n. AllByRecursion (λ t. t.first ≤ first) (take n (drop passed ss))) (let e : 0 ≡ place - passed = omega (arith, is.low) in e) tt
  ]
]

pub reach_placed : {I : Type 0} (ss : List (Stored I)) (passed f place : ℕ) (x : Stored I) → IsReach ss passed f 1 → IsPlace ss passed place x.first
    → ((p : ℕ) → x.first ≤ p → p < x.first + length x.items → is_stored ss p ≡ false) → 1 ≤ x.first → 0 < length x.items → x.first + length x.items ≤ 2 ^ 48
    → IsReach (take place ss ++ x ∷ drop place ss) passed f 0
reach_placed ss passed f place x r is free first pos last =
    let before = take passed ss in
    let waits = drop passed ss in
    let whole : before ++ waits ≡ ss = take-append-drop passed ss in
    let size : length before ≡ passed = omega (arith, length-take passed ss, r.within) in
    let j : ℕ = place - passed in
    let sum : passed + j ≡ place = omega (arith, is.low) in
    let front : take place ss ≡ before ++ take j waits = ap (λ n. take n ss) (sym sum) ∙ take_more_of ss passed j in
    let back : drop place ss ≡ drop j waits = ap (λ n. drop n ss) (sym sum) ∙ sym (drop-drop j passed ss) in
    let apart : f < x.first = elim (cases_lt f x.first) [
      | inl lt ↦ lt
      | inr ge ↦ absurd (false≢true (sym (free x.first (omega arith) (omega arith)) ∙ subst (λ l. is_stored l x.first ≡ true) whole (stored_still before waits x.first (reaches_stored 0 f x.first before r.reaches (omega arith) ge))))
    ] in
    let made = placed before waits f j x r.reaches r.waits r.below
    (λ p l h. false_from_ne_true (is_stored waits p) (λ e. false≢true (sym (free p l h) ∙ subst (λ l. is_stored l p ≡ true) whole (is_stored-append before waits p ∙ or_right (is_stored before p) (is_stored waits p) e))))
    (waits_below ss passed place x.first (f + 1) is r.waits) (subst (AllByRecursion (λ t. x.first < t.first)) back is.above) apart pos last in
    subst (λ l. IsReach l passed f 0) (sym (append_assoc before (take j waits) (x ∷ drop j waits)) ∙ ap (λ l. l ++ x ∷ drop j waits) (sym front) ∙ ap (λ l. take place ss ++ x ∷ l) (sym back))
    (subst (λ n. IsReach (before ++ (take j waits ++ x ∷ drop j waits)) n f 0) size made)

-- at each position the order has what the history has, with one store more in both
option_or-none : {A : Type 0} (o : Option A) → option_or o None ≡ o
option_or-none None = refl
option_or-none (Some y) = refl

swapped : {A : Type 0} (t d x : Option A) → (x ≡ None) ⊎ (option_or t d ≡ None) → option_or (option_or t d) x ≡ option_or t (option_or x d)
swapped None None x e = sym (option_or-none x)
swapped None (Some y) None e = refl
swapped None (Some y) (Some z) e = elim e [ inl a ↦ absurd (none-some z (sym a)) | inr b ↦ absurd (none-some y (sym b)) ]
swapped (Some y) d x e = refl

pub same_items : {I : Type 0} (h ss : List (Stored I)) (place p : ℕ) (x : Stored I) → item_at h p ≡ item_at ss p
    → ((x.first ≤ p) → (p < x.first + length x.items) → is_stored h p ≡ false)
    → item_at (h ++ x ∷ []) p ≡ item_at (take place ss ++ x ∷ drop place ss) p
same_items h ss place p x same free =
    let t = take place ss in
    let d = drop place ss in
    let parts : option_or (item_at t p) (item_at d p) ≡ item_at h p = sym (item_at-append t d p) ∙ ap (λ l. item_at l p) (take-append-drop place ss) ∙ sym same in
    let apart : (item_of x p ≡ None) ⊎ (option_or (item_at t p) (item_at d p) ≡ None) = elim (cases_Bool (is_stored (x ∷ []) p)) [
      | inl one ↦ elim (stored_cases [] x p one) [ inl none ↦ absurd (false≢true none) | inr range ↦ inr (parts ∙ no_item h p (free range.0 range.1)) ]
      | inr none ↦ inl (sym (option_or-none (item_of x p)) ∙ no_item (x ∷ []) p none)
    ] in
    item_at-append h (x ∷ []) p
    ∙ ap (λ o. option_or (item_at h p) o) (option_or-none (item_of x p))
    ∙ ap (λ o. option_or o (item_of x p)) (sym parts)
    ∙ swapped (item_at t p) (item_at d p) (item_of x p) apart
    ∙ sym (item_at-append t (x ∷ d) p)

-- the front of a history by its order
pub reach_front : {I : Type 0} (h ss : List (Stored I)) (passed f : ℕ) → IsReach ss passed f 1 → ((p : ℕ) → item_at h p ≡ item_at ss p) → IsFront h f
reach_front h ss passed f r same =
    let whole : take passed ss ++ drop passed ss ≡ ss = take-append-drop passed ss in record {
      stored = λ p pos le. ap is_some (same p) ∙ subst (λ l. is_stored l p ≡ true) whole (stored_still (take passed ss) (drop passed ss) p (reaches_stored 0 f p (take passed ss) r.reaches pos le));
      greatest = λ g all. elim (cases_lt f g) [
        | inl above ↦
            let is : is_stored ss (f + 1) ≡ true = sym (ap is_some (same (f + 1))) ∙ all (f + 1) (omega arith) (omega arith) in
            elim (or_cases (is_stored (take passed ss) (f + 1)) (is_stored (drop passed ss) (f + 1)) (sym (is_stored-append (take passed ss) (drop passed ss) (f + 1)) ∙ subst (λ l. is_stored l (f + 1) ≡ true) (sym whole) is)) [
              | inl one ↦ let le : f + 1 ≤ f = reaches_within 0 f (f + 1) (take passed ss) r.reaches one in absurd (omega arith)
              | inr rest ↦ let lt : f + 1 < f + 1 = ascends_above (f + 1) (f + 1) (drop passed ss) r.waits rest in absurd (omega arith)
            ]
        | inr le ↦ le
      ];
    }

pub reach_items : {I : Type 0} (h ss : List (Stored I)) (passed f : ℕ) → IsReach ss passed f 1 → ((p : ℕ) → item_at h p ≡ item_at ss p) → (k : ℕ) → k < f → slice_get (items_of (take passed ss)) k ≡ item_at h (suc k)
reach_items h ss passed f r same k lt =
    let whole : take passed ss ++ drop passed ss ≡ ss = take-append-drop passed ss in
    reaches_items 0 f (suc k) k (take passed ss) r.reaches (omega arith) (omega arith)
    ∙ sym (item_kept (take passed ss) (drop passed ss) (suc k) (reaches_stored 0 f (suc k) (take passed ss) r.reaches (omega arith) (omega arith)))
    ∙ ap (λ l. item_at l (suc k)) whole
    ∙ sym (same (suc k))

pub reach_length : {I : Type 0} (ss : List (Stored I)) (passed f gap : ℕ) → IsReach ss passed f gap → length (items_of (take passed ss)) ≡ f
reach_length ss passed f gap r = omega (arith, reaches_length 0 f (take passed ss) r.reaches)
