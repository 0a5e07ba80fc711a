-- What each call of a book needs of its fields, over plain values.
use Rattle.std.proofs.Common.{◌≡◌, ℕ, ◌+◌, ◌-◌, ◌<◌, ◌≤◌, ◌^◌, ◌⊎◌, zero, suc, false, Some, Result, Ok, if◌then◌else◌, List, [], ◌∷◌, ◌++◌, length, get_or, set, take, drop, replicate, refl, sym, ap, ap₂, ◌∙◌, subst, arith}
use Rattle.std.specs.List.{AllByRecursion, slice_get}
use Rattle.std.specs.Option.{is_some}
use Rattle.std.specs.Result.{is_ok}
use Rattle.std.proofs.lemmas.List.{append-nil, append_assoc, take_more, drop_all, length-take, set-get_or}
use Rattle.mx_core.specs.declared.history.Stored.{Stored}
use Rattle.mx_core.specs.Front.{IsFront}
use Rattle.mx_core.specs.History.{item_at, is_stored, items_of}
use Rattle.mx_lanes.specs.Book.{IsBook, IsShelved}
use Rattle.mx_lanes.specs.Order.{by_index, IsReach}
use Rattle.mx_lanes.specs.Parts.{IsUpTo, part_at}
use Rattle.mx_lanes.specs.Space.{total, HasSpace}
use Rattle.mx_lanes.proofs.Orders.{IsPlace, insert_named, valid_more, reach_placed, same_items, reach_front, reach_items, reach_length, slice_get-take, take_found, named_at, length-by_index}

-- the space of all lanes
total-set : (xs : List ℕ) (k v : ℕ) → k < length xs → total (set xs k v) + get_or xs k 0 ≡ total xs + v
total-set [] k v lt = absurd (omega arith)
total-set (x ∷ xs) zero v lt = omega arith
total-set (x ∷ xs) (suc k) v lt = let e : total (set xs k v) + get_or xs k 0 ≡ total xs + v = total-set xs k v (omega arith) in omega arith

total_has : (xs : List ℕ) (k : ℕ) → get_or xs k 0 ≤ total xs
total_has [] k = omega arith
total_has (x ∷ xs) zero = omega arith
total_has (x ∷ xs) (suc k) = let le : get_or xs k 0 ≤ total xs = total_has xs k in omega arith

total-replicate : (n : ℕ) → total (replicate n 0) ≡ 0
total-replicate zero = refl
total-replicate (suc n) = let e : total (replicate n 0) ≡ 0 = total-replicate n in omega arith

pub total_more : (xs : List ℕ) (i : ℕ) → i < length xs → total (take (i + 1) xs) ≡ total (take i xs) + get_or xs i 0
total_more xs i lt = ap total (take_more xs i 0 lt) ∙ total-push (take i xs) (get_or xs i 0)
  where
    total-push : (ys : List ℕ) (n : ℕ) → total (ys ++ n ∷ []) ≡ total ys + n
    total-push [] n = omega arith
    total-push (y ∷ ys) n = let e : total (ys ++ n ∷ []) ≡ total ys + n = total-push ys n in omega arith

pub space_new : (spare : List ℕ) (n used capacity : ℕ) → spare ≡ replicate n 0 → used ≡ 0 → HasSpace spare used capacity
space_new spare n used capacity is none = record { fits = omega (arith, ap total is, total-replicate n) }

pub space_reserved : (spare : List ℕ) (k more v used capacity : ℕ) → k < length spare → v ≡ get_or spare k 0 + more → used + (total spare + more) ≤ capacity → HasSpace (set spare k v) used capacity
space_reserved spare k more v used capacity lt is fits = record { fits = omega (arith, total-set spare k v lt) }

pub space_stored : (spare : List ℕ) (k v count used capacity grown larger : ℕ) → k < length spare → v + count ≡ get_or spare k 0 → 0 < count → HasSpace spare used capacity → grown ≡ used + 1 → capacity ≤ larger → HasSpace (set spare k v) grown larger
space_stored spare k v count used capacity grown larger lt is pos r more wide = record { fits = omega (arith, total-set spare k v lt, r.fits) }

pub has_space : (spare : List ℕ) (k count used capacity : ℕ) → count ≤ get_or spare k 0 → 0 < count → HasSpace spare used capacity → used < capacity
has_space spare k count used capacity le pos r = omega (arith, total_has spare k, r.fits)

-- the fields of a book
pub book_new : {I : Type 0} (h : List (Stored I)) (order : List ℕ) → h ≡ [] → order ≡ [] → IsBook h order 0 0
book_new {I} h order none nothing =
    subst (λ l. IsBook h l 0 0) (sym nothing) (subst (λ (l : List (Stored I)). IsBook l [] 0 0) (sym none)
    (record { valid = tt; reach = record { within = omega arith; reaches = refl; waits = tt; below = omega arith }; same = λ p. refl }))

pub book_front : {I : Type 0} (h : List (Stored I)) (order : List ℕ) (passed front : ℕ) → IsBook h order passed front → IsFront h front
book_front h order passed front b = reach_front h (by_index h order) passed front b.reach b.same

pub book_within : {I : Type 0} (h : List (Stored I)) (order : List ℕ) (passed front : ℕ) → IsBook h order passed front → passed ≤ length order
book_within h order passed front b = omega (arith, b.reach.within, length-by_index h order b.valid)

-- one store more: before the front moves, and after it
module _ {I : Type 0} (h : List (Stored I)) (order : List ℕ) (passed front place : ℕ) (x : Stored I) (b : IsBook h order passed front) (is : IsPlace (by_index h order) passed place x.first) where
  place_in : place ≤ length order
  place_in = omega (arith, is.high, length-by_index h order b.valid)

  pub put_valid : (longer : List (Stored I)) (more : List ℕ) → longer ≡ h ++ x ∷ [] → more ≡ take place order ++ length h ∷ drop place order → AllByRecursion (λ i. i < length longer) more
  put_valid longer more grown put = subst (λ (l : List (Stored I)). AllByRecursion (λ i. i < length l) more) (sym grown) (subst (AllByRecursion (λ i. i < length (h ++ x ∷ []))) (sym put) (valid_more h x order place b.valid))

  put_named : (longer : List (Stored I)) (more : List ℕ) → longer ≡ h ++ x ∷ [] → more ≡ take place order ++ length h ∷ drop place order → by_index longer more ≡ take place (by_index h order) ++ x ∷ drop place (by_index h order)
  put_named longer more grown put = ap (λ (l : List (Stored I)). by_index l more) grown ∙ ap (by_index (h ++ x ∷ [])) put ∙ insert_named h x order place b.valid place_in

  pub put_reach : (longer : List (Stored I)) (more : List ℕ) → longer ≡ h ++ x ∷ [] → more ≡ take place order ++ length h ∷ drop place order
      → ((p : ℕ) → x.first ≤ p → p < x.first + length x.items → is_stored h p ≡ false) → 1 ≤ x.first → 0 < length x.items → x.first + length x.items ≤ 2 ^ 48
      → IsReach (by_index longer more) passed front 0
  put_reach longer more grown put free first pos last =
      subst (λ l. IsReach l passed front 0) (sym (put_named longer more grown put))
      (reach_placed (by_index h order) passed front place x b.reach is (λ p low high. sym (ap is_some (b.same p)) ∙ free p low high) first pos last)

  pub put_book : (longer : List (Stored I)) (more : List ℕ) → longer ≡ h ++ x ∷ [] → more ≡ take place order ++ length h ∷ drop place order
      → ((p : ℕ) → x.first ≤ p → p < x.first + length x.items → is_stored h p ≡ false)
      → (after later : ℕ) → IsReach (by_index longer more) after later 1 → IsBook longer more after later
  put_book longer more grown put free after later r = record {
    valid = put_valid longer more grown put;
    reach = r;
    same = λ p. ap (λ l. item_at l p) grown ∙ same_items h (by_index h order) place p x (b.same p) (free p) ∙ sym (ap (λ l. item_at l p) (put_named longer more grown put));
  }

pub book_same : {I : Type 0} (h seen : List (Stored I)) (order places : List ℕ) (passed front : ℕ) → IsBook h order passed front → seen ≡ h → places ≡ order → IsBook seen places passed front
book_same h seen order places passed front b e f =
    subst (λ l. IsBook seen l passed front) (sym f) (subst (λ (l : List (Stored _)). IsBook l order passed front) (sym e) b)

-- what holds once a store was put into the history and the order
pub record IsPut {I : Type 0} (longer : List (Stored I)) (more : List ℕ) (passed front : ℕ) : Type 0 where
  pub valid : AllByRecursion (λ i. i < length longer) more
  pub reach : IsReach (by_index longer more) passed front 0
  pub book : (after later : ℕ) → IsReach (by_index longer more) after later 1 → IsBook longer more after later

pub is_place : {I : Type 0} (h seen : List (Stored I)) (order places : List ℕ) (passed place start first : ℕ) → AllByRecursion (λ i. i < length h) order → seen ≡ h → places ≡ order → start ≡ first
    → (passed ≤ place) × (place ≤ length places) → AllByRecursion (λ s. start < s.first) (drop place (by_index seen places))
    → (place ≡ passed) ⊎ ((s : Stored I) × (slice_get (by_index seen places) (place - 1) ≡ Some s) × (s.first ≤ start)) → IsPlace (by_index h order) passed place first
is_place {I} h seen order places passed place start first valid e f at bounds above below =
    let same : by_index seen places ≡ by_index h order = ap (λ (l : List (Stored I)). by_index l places) e ∙ ap (by_index h) f in
    let is : IsPlace (by_index h order) passed place start = record {
      low = bounds.0;
      high = omega (arith, bounds.1, ap length f, length-by_index h order valid);
      above = subst (λ l. AllByRecursion (λ s. start < s.first) (drop place l)) same above;
      below = subst (λ (l : List (Stored I)). (place ≡ passed) ⊎ ((s : Stored I) × (slice_get l (place - 1) ≡ Some s) × (s.first ≤ start))) same below;
    } in
    subst (IsPlace (by_index h order) passed place) at is

pub is_put : {I : Type 0} (h longer : List (Stored I)) (order more : List ℕ) (passed front place index : ℕ) (x : Stored I) → IsBook h order passed front → IsPlace (by_index h order) passed place x.first
    → longer ≡ h ++ x ∷ [] → more ≡ take place order ++ index ∷ drop place order → index ≡ length h
    → ((p : ℕ) → x.first ≤ p → p < x.first + length x.items → is_stored h p ≡ false) → 1 ≤ x.first → 0 < length x.items → x.first + length x.items ≤ 2 ^ 48
    → IsPut longer more passed front
is_put h longer order more passed front place index x b is grown put at free first pos last =
    let put' : more ≡ take place order ++ length h ∷ drop place order = put ∙ ap (λ n. take place order ++ n ∷ drop place order) at in record {
      valid = put_valid h order passed front place x b is longer more grown put';
      reach = put_reach h order passed front place x b is longer more grown put' free first pos last;
      book = put_book h order passed front place x b is longer more grown put' free;
    }

-- what a call that answered `Ok` left
pub when_ok : {T E A : Type 0} (r : Result T E) (x : T) (v a b : A) → r ≡ Ok x → v ≡ (if is_ok r then a else b) → v ≡ a
when_ok r x v a b is e = e ∙ ap (λ z. if is_ok z then a else b) is

-- one store's items more on the shelf
pub items_of-push : {I : Type 0} (ss : List (Stored I)) (s : Stored I) → items_of (ss ++ s ∷ []) ≡ items_of ss ++ s.items
items_of-push [] s = append-nil s.items
items_of-push (t ∷ ss) s = ap (λ l. t.items ++ l) (items_of-push ss s) ∙ sym (append_assoc t.items (items_of ss) s.items)

pub shelved_more : {I : Type 0} (ss : List (Stored I)) (k : ℕ) (s : Stored I) (shelf grown : List I) → slice_get ss k ≡ Some s → shelf ≡ items_of (take k ss)
    → grown ≡ shelf ++ s.items → grown ≡ items_of (take (k + 1) ss)
shelved_more ss k s shelf grown at had more =
    let next : suc k ≡ k + 1 = omega arith in
    more ∙ ap (λ l. l ++ s.items) had ∙ sym (items_of-push (take k ss) s) ∙ ap items_of (sym (take_found ss k s at) ∙ ap (λ i. take i ss) next)

pub shelved_next : {I : Type 0} (h seen : List (Stored I)) (order : List ℕ) (k i : ℕ) (s : Stored I) (shelf grown : List I) → seen ≡ h → AllByRecursion (λ i. i < length h) order → k < length order
    → i ≡ get_or order k i → s ≡ get_or seen i s → shelf ≡ items_of (take k (by_index h order)) → grown ≡ shelf ++ s.items → grown ≡ items_of (take (k + 1) (by_index h order))
shelved_next h seen order k i s shelf grown e valid lt at is had more =
    shelved_more (by_index h order) k s shelf grown (named_at h order k i s valid lt at (is ∙ ap (λ (l : List (Stored _)). get_or l i s) e)) had more

-- an entry that is written back as it was
pub written_same : {A : Type 0} (xs : List A) (i : ℕ) (x y : A) → x ≡ get_or xs i x → y ≡ x → set xs i y ≡ xs
written_same xs i x y is same = ap (set xs i) (same ∙ is) ∙ set-get_or xs i x

take_kept : {A : Type 0} (n place : ℕ) (xs rest : List A) → n ≤ place → place ≤ length xs → take n (take place xs ++ rest) ≡ take n xs
take_kept zero place xs rest low high = refl
take_kept (suc n) zero xs rest low high = absurd (omega (arith, low))
take_kept (suc n) (suc place) [] rest low high = absurd (omega (arith, high))
take_kept (suc n) (suc place) (x ∷ xs) rest low high = ap (λ l. x ∷ l) (take_kept n place xs rest (omega (arith, low)) (omega (arith, high)))

-- the stores that reach the front stay first
pub kept_stores : {I : Type 0} (h longer : List (Stored I)) (order more : List ℕ) (place index : ℕ) (x : Stored I) (passed : ℕ) → AllByRecursion (λ i. i < length h) order
    → longer ≡ h ++ x ∷ [] → more ≡ take place order ++ index ∷ drop place order → index ≡ length h → passed ≤ place → place ≤ length order
    → (n : ℕ) → n ≤ passed → take n (by_index longer more) ≡ take n (by_index h order)
kept_stores {I} h longer order more place index x passed valid grown put at low high n within =
    ap (take n) (ap₂ (λ (a : List (Stored I)) b. by_index a b) grown (put ∙ ap (λ k. take place order ++ k ∷ drop place order) at) ∙ insert_named h x order place valid high)
    ∙ take_kept n place (by_index h order) (x ∷ drop place (by_index h order)) (omega (arith, within, low)) (omega (arith, high, length-by_index h order valid))

pub shelved_same : {I : Type 0} (h seen : List (Stored I)) (order places : List ℕ) (passed shelved : ℕ) (shelf : List I) → IsShelved h order passed shelved shelf → seen ≡ h → places ≡ order → IsShelved seen places passed shelved shelf
shelved_same {I} h seen order places passed shelved shelf b e f = record {
  within = b.within;
  items = b.items ∙ ap (λ l. items_of (take shelved l)) (ap₂ (λ (a : List (Stored I)) o. by_index a o) (sym e) (sym f));
}

pub above_none : {I : Type 0} (ss : List (Stored I)) (n first : ℕ) → length ss ≤ n → AllByRecursion (λ s. first < s.first) (drop n ss)
above_none ss n first le = subst (AllByRecursion (λ s. first < s.first)) (sym (drop_all n ss le)) tt

-- the items that are taken
pub taken : {I : Type 0} (h : List (Stored I)) (order : List ℕ) (passed front last : ℕ) (items : List I) (stores : ℕ) → IsBook h order passed front → last ≤ front
    → items ≡ take last (items_of (take passed (by_index h order))) → stores ≡ length h → IsUpTo h last (record { items = items; stores = stores })
taken h order passed front last items stores b le is count = record {
  front = omega (arith, ap length is, length-take last (items_of (take passed (by_index h order))), reach_length (by_index h order) passed front 1 b.reach);
  items = part h order passed front last items stores b le is;
  stores = count;
}
  where
    part : {I : Type 0} (h : List (Stored I)) (order : List ℕ) (passed front last : ℕ) (items : List I) (stores : ℕ) → IsBook h order passed front → last ≤ front
        → items ≡ take last (items_of (take passed (by_index h order))) → (p : ℕ) → 0 < p → p ≤ last → part_at (record { items = items; stores = stores }) p ≡ item_at h p
    part h order passed front last items stores b le is zero pos high = absurd (omega arith)
    part h order passed front last items stores b le is (suc k) pos high =
        ap (λ l. slice_get l k) is ∙ slice_get-take (items_of (take passed (by_index h order))) last k (omega arith) ∙ reach_items h (by_index h order) passed front b.reach b.same k (omega arith)

pub taken_at : {I : Type 0} (h : List (Stored I)) (order places : List ℕ) (passed front last : ℕ) (items : List I) (stores : ℕ) → IsBook h order passed front → last ≤ front → places ≡ order
    → items ≡ take last (items_of (take passed (by_index h places))) → stores ≡ length h → IsUpTo h last (record { items = items; stores = stores })
taken_at h order places passed front last items stores b le f is count =
    taken h order passed front last items stores b le (is ∙ ap (λ l. take last (items_of (take passed (by_index h l)))) f) count

-- the shelf reaches the front
pub shelf_reaches : {I : Type 0} (h : List (Stored I)) (order places : List ℕ) (passed front last : ℕ) (shelf : List I) → IsBook h order passed front → last ≤ front → places ≡ order
    → shelf ≡ items_of (take passed (by_index h places)) → last ≤ length shelf
shelf_reaches h order places passed front last shelf b le f is =
    let same : shelf ≡ items_of (take passed (by_index h order)) = is ∙ ap (λ o. items_of (take passed (by_index h o))) f in
    omega (arith, ap length same, reach_length (by_index h order) passed front 1 b.reach, le)
