-- A list in the order of a number: what is found in it, and what is put into it.
use Rattle.std.proofs.Common.{◌≡◌, ◌≢◌, ℕ, zero, suc, ◌≤◌, ◌<◌, Bool, true, false, not, cond, ◌&&◌, ◌||◌, ◌==◌, List, [], ◌∷◌, length, take, drop, leb, ltb, leb-true, filter, Result, Ok, is_ok, inl, inr, refl, sym, ap, ap₂, ◌∙◌, arith}
use Rattle.std.proofs.lemmas.Bool.{cases_Bool, eq-eqb, ne_eqb, leb-false, ltb-true, ltb-false}
use Rattle.std.proofs.lemmas.List.Sorted.{IsNonDecreasingBy-insert}
use Rattle.std.specs.List.{AllWithin, insert, list_any}
use Rattle.std.specs.List.Sorted.{IsNonDecreasingBy, IsPartitionPoint}
use Rattle.mx_auth.specs.Placing.{is_sent_at, sent_position}
use Rattle.mx_auth.specs.declared.places.SentAt.{SentAt}

-- ---- where a test turns

module _ {X : Type 0} (p : X → Bool) where
  all_passed : (xs : List X) → AllWithin (λ x. p x ≡ true) xs 0 (length xs) → filter p xs ≡ xs
  all_passed [] h = refl
  all_passed (x ∷ xs) h =
      let first : p x ≡ true = h 0 x (omega arith) (omega arith) in
      let rest = all_passed xs (λ k d l m. h (suc k) d (omega arith) (omega (arith, m))) in
      rw first (ap (λ ys. x ∷ ys) rest)

  none_passed : (xs : List X) → AllWithin (λ x. p x ≡ false) xs 0 (length xs) → filter p xs ≡ []
  none_passed [] h = refl
  none_passed (x ∷ xs) h =
      let first : p x ≡ false = h 0 x (omega arith) (omega arith) in
      let rest = none_passed xs (λ k d l m. h (suc k) d (omega arith) (omega (arith, m))) in
      rw first rest

  -- the elements before the point pass
  pub point_front : (xs : List X) (i : ℕ) → i ≤ length xs → IsPartitionPoint (λ x. p x ≡ true) (λ x. p x ≡ false) xs i → take i xs ≡ filter p xs
  point_front [] zero b h = refl
  point_front [] (suc i) b h = refl
  point_front (x ∷ xs) zero b h = sym (none_passed (x ∷ xs) h.1)
  point_front (x ∷ xs) (suc i) b h =
      let first : p x ≡ true = h.0 0 x (omega arith) (omega arith) in
      let rest = point_front xs i (omega (arith, b)) (λ k d l m. h.0 (suc k) d (omega arith) (omega (arith, m)), λ k d l m. h.1 (suc k) d (omega (arith, l)) (omega (arith, m))) in
      rw first (ap (λ ys. x ∷ ys) rest)

  -- and those from it on don't
  pub point_back : (xs : List X) (i : ℕ) → i ≤ length xs → IsPartitionPoint (λ x. p x ≡ true) (λ x. p x ≡ false) xs i → drop i xs ≡ filter (λ x. not (p x)) xs
  point_back [] zero b h = refl
  point_back [] (suc i) b h = refl
  point_back (x ∷ xs) zero b h = sym (others (x ∷ xs) h.1) where
    others : (ys : List X) → AllWithin (λ y. p y ≡ false) ys 0 (length ys) → filter (λ y. not (p y)) ys ≡ ys
    others [] h = refl
    others (y ∷ ys) h =
        let first : p y ≡ false = h 0 y (omega arith) (omega arith) in
        let rest = others ys (λ k d l m. h (suc k) d (omega arith) (omega (arith, m))) in
        rw first (ap (λ zs. y ∷ zs) rest)
  point_back (x ∷ xs) (suc i) b h =
      let first : p x ≡ true = h.0 0 x (omega arith) (omega arith) in
      let rest = point_back xs i (omega (arith, b)) (λ k d l m. h.0 (suc k) d (omega arith) (omega (arith, m)), λ k d l m. h.1 (suc k) d (omega (arith, l)) (omega (arith, m))) in
      rw first rest

filter-both : {X : Type 0} (p q r : X → Bool) → ((x : X) → (q x && p x) ≡ r x) → (xs : List X) → filter p (filter q xs) ≡ filter r xs
filter-both p q r h [] = refl
filter-both p q r h (x ∷ xs) =
    let rest = filter-both p q r h xs in
    elim (cases_Bool (q x)) [
      | inl a ↦ rw a (ap₂ (λ b ys. cond b (x ∷ ys) ys) (ap (λ b. b && p x) (sym a) ∙ h x) rest)
      | inr a ↦ rw a (rest ∙ ap (λ b. cond b (x ∷ filter r xs) (filter r xs)) (ap (λ b. b && p x) (sym a) ∙ h x))
    ]

-- ---- places

-- not below a number, and at most it
at_test : (n at : ℕ) → (not (ltb n at) && leb n at) ≡ (at == n)
at_test n at =
    elim (cases_Bool (ltb n at)) [
      | inl below ↦ rw (below, ne_eqb at n (above n at (ltb-true n at below))) refl
      | inr reached ↦ (elim (cases_Bool (leb n at)) [
        | inl within ↦ rw (reached, within, eq-eqb at n (meets n at (ltb-false n at reached) (leb-true n at within))) refl
        | inr beyond ↦ rw (reached, beyond, ne_eqb at n (before n at (leb-false n at beyond))) refl
      ])
    ] where
      above : (m a : ℕ) → m < a → a ≢ m
      above m a l e = omega (arith, l, e)

      before : (m a : ℕ) → a < m → a ≢ m
      before m a l e = omega (arith, l, e)

      meets : (m a : ℕ) → a ≤ m → m ≤ a → a ≡ m
      meets m a l k = omega (arith, l, k)

-- the places at a position
pub sent_at_those : (ps rest : List SentAt) (at from count : ℕ) → from ≤ length ps → IsPartitionPoint (λ (p : SentAt). ltb p.at at ≡ true) (λ (p : SentAt). ltb p.at at ≡ false) ps from
    → rest ≡ drop from ps → count ≤ length rest → IsPartitionPoint (λ (p : SentAt). leb p.at at ≡ true) (λ (p : SentAt). leb p.at at ≡ false) rest count
    → take count rest ≡ filter (is_sent_at at) ps
sent_at_those ps rest at from count b h is b' h' =
    point_front (λ (p : SentAt). leb p.at at) rest count b' h'
    ∙ ap (filter (λ (p : SentAt). leb p.at at)) (is ∙ point_back (λ (p : SentAt). ltb p.at at) ps from b h)
    ∙ filter-both (λ (p : SentAt). leb p.at at) (λ (p : SentAt). not (ltb p.at at)) (is_sent_at at) (λ p. at_test p.at at) ps

-- a place that is put where those with no larger position end keeps the order
pub put_sorted : (ps : List SentAt) (i : ℕ) (p : SentAt) → IsNonDecreasingBy sent_position ps → i ≤ length ps
    → IsPartitionPoint (λ (q : SentAt). leb q.at p.at ≡ true) (λ (q : SentAt). leb q.at p.at ≡ false) ps i → IsNonDecreasingBy sent_position (insert ps i p)
put_sorted ps i p sorted b h =
    IsNonDecreasingBy-insert sent_position ps i p sorted b (λ k d l. leb-true _ _ (h.0 k d (omega arith) l))
    (λ k d l m. le_of_lt _ _ (leb-false _ _ (h.1 k d l m))) where
      le_of_lt : (a c : ℕ) → a < c → a ≤ c
      le_of_lt a c l = omega (arith, l)

-- what passes two tests
pub any_of : {X : Type 0} (test keep : X → Bool) (xs : List X) → list_any test (filter keep xs) ≡ list_any (λ x. keep x && test x) xs
any_of test keep [] = refl
any_of test keep (x ∷ xs) =
    let rest = any_of test keep xs in
    elim (cases_Bool (keep x)) [ inl a ↦ rw a (ap (λ b. test x || b) rest) | inr a ↦ rw a rest ]

some-left : {X : Type 0} (y : X) (ys : List X) → not (length (y ∷ ys) == 0) ≡ true
some-left y ys = ap not (ne_eqb (length (y ∷ ys)) 0 (λ e. omega (arith, e)))

-- whether a filter keeps anything
pub any_kept : {X : Type 0} (keep : X → Bool) (xs : List X) → not (length (filter keep xs) == 0) ≡ list_any keep xs
any_kept keep [] = refl
any_kept keep (x ∷ xs) =
    let rest = any_kept keep xs in
    elim (cases_Bool (keep x)) [ inl a ↦ rw a (some-left x (filter keep xs)) | inr a ↦ rw a rest ]

-- what an `if` on a success gives, where it succeeded
pub when_ok : {T E A : Type 0} (r : Result T E) (x : T) (v a b : A) → r ≡ Ok x → v ≡ cond (is_ok r) a b → v ≡ a
when_ok r x v a b is e = e ∙ ap (λ z. cond (is_ok z) a b) is
