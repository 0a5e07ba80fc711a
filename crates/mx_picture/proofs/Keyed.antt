-- The latest items, key by key: of entries in order just one is under a key.
use Rattle.std.proofs.Common.{◌≡◌, Bool, true, false, cond, T, List, [], ◌∷◌, filter, map, Option, Some, None, option_map, Ordering, refl, ap, sym, ◌∙◌, inl, inr}
use Rattle.std.proofs.lemmas.Bool.{cases_Bool}
use Rattle.std.specs.Cmp.{IsTotalOrder}
use Rattle.std.specs.FinMap.Entries.{find, below_all, is_sorted}
use Rattle.std.specs.Map.{values_of}
use Rattle.std.specs.Ordering.{eq_by_cmp}
use Rattle.mx_window.specs.Lasts.{last_of}
use Rattle.mx_window.proofs.Each.{AllByRecursion-every, AllByRecursion-passed, AllByRecursion-weaker, list_any-none}
use Rattle.mx_window.proofs.Lasts.{last_of-filter, last_of-none}
use Rattle.mx_fold.specs.Latest.{latest}
use Rattle.mx_fold.proofs.Latest.{IsExact, all_sorted, equal_is, latest_are_last, latest_keyed, left, not_behind, right}
use Rattle.mx_picture.specs.Rests.{only}

module _ {K V : Type 0} (cmp : K → K → Ordering) (total : IsTotalOrder cmp) (exact : IsExact cmp) where
  one_of : (q : K) (es : List (K × V)) → T (is_sorted cmp es)
      → filter (λ (p : K × V). eq_by_cmp cmp q p.0) es ≡ only (option_map (λ (v : V). (q, v)) (find cmp q es))
  one_of q [] h = refl
  one_of q (e ∷ es) h =
      let rest = one_of q es (right (below_all cmp e.0 es) (is_sorted cmp es) h) in
      let kept : List (K × V) = filter (λ (p : K × V). eq_by_cmp cmp q p.0) es in
      elim (cases_Bool (eq_by_cmp cmp q e.0)) [
        | inl a ↦
            let none : find cmp q es ≡ None = not_behind cmp total q e.0 es (equal_is (cmp q e.0) a) (left (below_all cmp e.0 es) (is_sorted cmp es) h) in
            ap (λ b. cond b (e ∷ kept) kept) a
            ∙ ap (λ l. e ∷ l) (rest ∙ ap (λ o. only (option_map (λ (v : V). (q, v)) o)) none)
            ∙ (λ i. (sym (exact q e.0 (equal_is (cmp q e.0) a)) i, e.1) ∷ [])
            ∙ sym (ap (λ b. only (option_map (λ (v : V). (q, v)) (cond b (Some e.1) (find cmp q es)))) a)
        | inr a ↦
            ap (λ b. cond b (e ∷ kept) kept) a ∙ rest
            ∙ sym (ap (λ b. only (option_map (λ (v : V). (q, v)) (cond b (Some e.1) (find cmp q es)))) a)
      ]

  -- of the latest items just the last one of a key is under it
  module _ {X : Type 0} (key : X → K) (value : X → V) where
    pub one_latest : (q : K) (xs : List X) → filter (λ (p : K × V). eq_by_cmp cmp q p.0) (latest cmp key value xs)
        ≡ only (option_map (λ (v : V). (q, v)) (option_map value (last_of (λ x. eq_by_cmp cmp q (key x)) xs)))
    one_latest q xs =
        one_of q (latest cmp key value xs) (all_sorted cmp total key value [] xs tt)
        ∙ ap (λ o. only (option_map (λ (v : V). (q, v)) o)) (latest_are_last cmp total key value q xs)

-- and so of the latest items under their own keys
module _ {K X : Type 0} (cmp : K → K → Ordering) (total : IsTotalOrder cmp) (exact : IsExact cmp) (key : X → K) where
  unkeyed : (q : K) (xs : List X) → filter (λ x. eq_by_cmp cmp q (key x)) xs
      ≡ map (λ (p : K × X). p.1) (filter (λ (p : K × X). eq_by_cmp cmp q p.0) (map (λ x. (key x, x)) xs))
  unkeyed q [] = refl
  unkeyed q (x ∷ xs) = by (eq_by_cmp cmp q (key x)) (unkeyed q xs) where
    by : (b : Bool)
        → filter (λ y. eq_by_cmp cmp q (key y)) xs ≡ map (λ (p : K × X). p.1) (filter (λ (p : K × X). eq_by_cmp cmp q p.0) (map (λ y. (key y, y)) xs))
        → cond b (x ∷ filter (λ y. eq_by_cmp cmp q (key y)) xs) (filter (λ y. eq_by_cmp cmp q (key y)) xs)
        ≡ map (λ (p : K × X). p.1) (cond b ((key x, x) ∷ filter (λ (p : K × X). eq_by_cmp cmp q p.0) (map (λ y. (key y, y)) xs))
        (filter (λ (p : K × X). eq_by_cmp cmp q p.0) (map (λ y. (key y, y)) xs)))
    by true rest = ap (λ l. x ∷ l) rest
    by false rest = rest

  values_one : (q : K) (o : Option X) → map (λ (p : K × X). p.1) (only (option_map (λ (x : X). (q, x)) (option_map (λ (x : X). x) o))) ≡ only o
  values_one q None = refl
  values_one q (Some x) = refl

  pub one_of_values : (q : K) (xs : List X) → filter (λ x. eq_by_cmp cmp q (key x)) (values_of (latest cmp key (λ x. x) xs))
      ≡ only (last_of (λ x. eq_by_cmp cmp q (key x)) xs)
  one_of_values q xs =
      unkeyed q (values_of (latest cmp key (λ x. x) xs))
      ∙ ap (λ es. map (λ (p : K × X). p.1) (filter (λ (p : K × X). eq_by_cmp cmp q p.0) es)) (latest_keyed cmp exact key xs)
      ∙ ap (map (λ (p : K × X). p.1)) (one_latest cmp total exact key (λ x. x) q xs)
      ∙ values_one q (last_of (λ x. eq_by_cmp cmp q (key x)) xs)

-- the last item that passes a test, of those that are kept, where all that pass are kept alike
pub last_kept : {X : Type 0} (test keep : X → Bool) (kept : Bool) → ((x : X) → test x ≡ true → keep x ≡ kept) → (xs : List X)
    → last_of test (filter keep xs) ≡ cond kept (last_of test xs) None
last_kept {X = X} test keep true same xs = last_of-filter test keep xs (AllByRecursion-every (λ (x : X). test x ≡ true → keep x ≡ true) same xs)
last_kept {X = X} test keep false same xs =
    last_of-none test (filter keep xs)
    (list_any-none test (filter keep xs)
    (AllByRecursion-weaker (λ (x : X). keep x ≡ true) (λ (x : X). test x ≡ false) fails (filter keep xs) (AllByRecursion-passed keep xs))) where
      fails : (x : X) → keep x ≡ true → test x ≡ false
      fails x kept =
          elim (cases_Bool (test x)) [
            | inl a ↦ let both : true ≡ false = sym kept ∙ same x a in absurd cc
            | inr a ↦ a
          ]
