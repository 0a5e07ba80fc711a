-- The items that pass one of some tests, of which no two pass the same item, are in another order those of each test in turn;
-- and two lists in rising order that are each other's permutations are the same.
use Rattle.std.proofs.Common.{◌≡◌, ℕ, suc, ◌+◌, ◌≤◌, ◌<◌, Bool, true, false, cond, ◌&&◌, ◌||◌, nat_le, nat_lt, List, [], ◌∷◌, ◌++◌, map, filter, refl, sym, ap, ap₂, subst, ◌∙◌, arith}
use Rattle.std.proofs.lemmas.Bool.{le-leb, lt-leb, ltb-true, ltb-false}
use Rattle.std.proofs.lemmas.List.{map-append}
use Rattle.std.proofs.lemmas.List.Sums.{sum_by-cons}
use Rattle.std.proofs.lemmas.List.Elements.{recursion_from_All}
use Rattle.std.proofs.lemmas.List.Sorted.{IsPermutation-refl, IsPermutation-cons, IsPermutation-middle, IsPermutation-sym, IsPermutation-trans, IsPermutation-append, IsPermutation-map, sum_by-IsPermutation}
use Rattle.std.specs.Prelude.{⊤}
use Rattle.std.specs.List.{AllByRecursion, flat_map, list_any, sum_by}
use Rattle.std.specs.List.Sorted.{IsNonDecreasingBy, IsPermutation}
use Rattle.mx_window.proofs.Each.{AllByRecursion-weaker}
use Rattle.mx_snapshot.specs.Lists.{itself}

module _ {E : Type 0} (keep : E → Bool) where
  parted : (p q : E → Bool) → ((x : E) → p x ≡ true → q x ≡ false) → (xs : List E)
      → IsPermutation (filter (λ x. keep x && (p x || q x)) xs) (filter (λ x. keep x && p x) xs ++ filter (λ x. keep x && q x) xs)
  parted p q apart [] = IsPermutation-refl []
  parted p q apart (x ∷ xs) = by_tests (keep x) (p x) (q x) (apart x) (parted p q apart xs) where
    by_tests : (k a b : Bool) → (a ≡ true → b ≡ false)
        → IsPermutation (filter (λ y. keep y && (p y || q y)) xs) (filter (λ y. keep y && p y) xs ++ filter (λ y. keep y && q y) xs)
        → IsPermutation (cond (k && (a || b)) (x ∷ filter (λ y. keep y && (p y || q y)) xs) (filter (λ y. keep y && (p y || q y)) xs))
        (cond (k && a) (x ∷ filter (λ y. keep y && p y) xs) (filter (λ y. keep y && p y) xs) ++ cond (k && b) (x ∷ filter (λ y. keep y && q y) xs) (filter (λ y. keep y && q y) xs))
    by_tests false a b apart rest = rest
    by_tests true true true apart rest = let bad : true ≡ false = apart refl in absurd cc
    by_tests true true false apart rest = IsPermutation-cons x _ _ rest
    by_tests true false true apart rest = IsPermutation-trans _ _ _ (IsPermutation-cons x _ _ rest) (IsPermutation-sym _ _ (IsPermutation-middle (filter (λ y. keep y && p y) xs) x (filter (λ y. keep y && q y) xs)))
    by_tests true false false apart rest = rest

  none_kept : (xs : List E) → filter (λ x. keep x && false) xs ≡ []
  none_kept [] = refl
  none_kept (x ∷ xs) = ap (λ b. cond b (x ∷ filter (λ y. keep y && false) xs) (filter (λ y. keep y && false) xs)) (no (keep x)) ∙ none_kept xs where
    no : (b : Bool) → (b && false) ≡ false
    no true = refl
    no false = refl

  module _ {G : Type 0} (test : G → E → Bool) where
    -- what passes the test of one group passes that of no later one
    abbrev pub AreApart : List G → Type 0
    AreApart [] = ⊤
    AreApart (g ∷ gs) = ((x : E) → test g x ≡ true → list_any (λ h. test h x) gs ≡ false) × AreApart gs

    pub grouped : {X : Type 0} (f : E → X) (found : G → List X) (xs : List E) (gs : List G) → AreApart gs → AllByRecursion (λ g. IsPermutation (map f (filter (λ x. keep x && test g x) xs)) (found g)) gs
        → IsPermutation (map f (filter (λ x. keep x && list_any (λ g. test g x) gs) xs)) (flat_map found gs)
    grouped f found xs [] apart each = subst (λ l. IsPermutation (map f l) []) (sym (none_kept xs)) (IsPermutation-refl [])
    grouped f found xs (g ∷ gs) apart each =
        let own = filter (λ x. keep x && test g x) xs in
        let others = filter (λ x. keep x && list_any (λ h. test h x) gs) xs in
        IsPermutation-trans _ _ _ (IsPermutation-map f _ _ (parted (test g) (λ x. list_any (λ h. test h x) gs) apart.0 xs))
        (subst (λ l. IsPermutation l (found g ++ flat_map found gs)) (sym (map-append f own others)) (IsPermutation-append (map f own) (found g) (map f others) (flat_map found gs) each.0 (grouped f found xs gs apart.1 each.1)))

-- ---- lists in rising order

abbrev Rises : List ℕ → Type 0
Rises [] = ⊤
Rises (x ∷ xs) = AllByRecursion (λ y. x ≤ y) xs × Rises xs

rises_of : (xs : List ℕ) → IsNonDecreasingBy itself xs → Rises xs
rises_of [] up = tt
rises_of (x ∷ xs) up = (
  recursion_from_All (λ y. x ≤ y) xs (λ k d within. up 0 (suc k) d (omega arith) (omega (arith, within))),
  rises_of xs (λ i j d order within. up (suc i) (suc j) d (omega (arith, order)) (omega (arith, within))),
)

abbrev upto : ℕ → ℕ → ℕ
upto n y = cond (nat_le y n) 1 0

none_upto : (n : ℕ) (ys : List ℕ) → AllByRecursion (λ y. n < y) ys → sum_by (upto n) ys ≡ 0
none_upto n [] above = refl
none_upto n (y ∷ ys) above =
    let first : n < y = above.0 in
    sum_by-cons (upto n) y ys ∙ ap₂ (λ b k. cond b 1 0 + k) (lt-leb y n (omega (arith, first))) (none_upto n ys above.1)

-- the heads are the same: else the lesser one is missing in the other list
not_less : (x y : ℕ) (xs ys : List ℕ) → AllByRecursion (λ z. y ≤ z) ys → x < y → sum_by (upto x) (x ∷ xs) ≡ sum_by (upto x) (y ∷ ys) → ⊥
not_less x y xs ys rises less same =
    let none : sum_by (upto x) (y ∷ ys) ≡ 0 = none_upto x (y ∷ ys) (less, AllByRecursion-weaker (λ z. y ≤ z) (λ z. x < z) (λ z h. omega (arith, h, less)) ys rises) in
    let own : sum_by (upto x) (x ∷ xs) ≡ 1 + sum_by (upto x) xs = sum_by-cons (upto x) x xs ∙ ap (λ b. cond b 1 0 + sum_by (upto x) xs) (le-leb x x (omega arith)) in
    omega (arith, same, none, own)

same_of : (xs ys : List ℕ) → Rises xs → Rises ys → ((f : ℕ → ℕ) → sum_by f xs ≡ sum_by f ys) → xs ≡ ys
same_of [] [] up down same = refl
same_of [] (y ∷ ys) up down same = let one : 0 ≡ 1 + sum_by (λ z. 1) ys = same (λ z. 1) ∙ sum_by-cons (λ z. 1) y ys in absurd (omega (arith, one))
same_of (x ∷ xs) [] up down same = let one : 1 + sum_by (λ z. 1) xs ≡ 0 = sym (sum_by-cons (λ z. 1) x xs) ∙ same (λ z. 1) in absurd (omega (arith, one))
same_of (x ∷ xs) (y ∷ ys) up down same = ap₂ (λ z l. z ∷ l) head (same_of xs ys up.1 down.1 rest) where
  head : x ≡ y
  head = by_less (nat_lt x y) (nat_lt y x) refl refl where
    by_less : (a b : Bool) → nat_lt x y ≡ a → nat_lt y x ≡ b → x ≡ y
    by_less true b is other = absurd (not_less x y xs ys down.0 (ltb-true x y is) (same (upto x)))
    by_less false true is other = absurd (not_less y x ys xs up.0 (ltb-true y x other) (sym (same (upto y))))
    by_less false false is other = omega (arith, ltb-false x y is, ltb-false y x other)

  rest : (f : ℕ → ℕ) → sum_by f xs ≡ sum_by f ys
  rest f =
      let whole : f x + sum_by f xs ≡ f y + sum_by f ys = sym (sum_by-cons f x xs) ∙ same f ∙ sum_by-cons f y ys in
      let first : f x ≡ f y = ap f head in
      omega (arith, whole, first)

pub same_sorted : (xs ys : List ℕ) → IsNonDecreasingBy itself xs → IsNonDecreasingBy itself ys → IsPermutation xs ys → xs ≡ ys
same_sorted xs ys up down moved = same_of xs ys (rises_of xs up) (rises_of ys down) (λ f. sym (sum_by-IsPermutation f xs ys moved))
