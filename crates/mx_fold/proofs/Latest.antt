-- The last item under each key: what is found under a key, and two lists joined.
use Rattle.std.proofs.Common.{◌≡◌, Bool, true, false, cond, T, ◌&&◌, List, [], ◌∷◌, ◌++◌, map, fold, Option, Some, None, option_map, Ordering, Less, Equal, Greater, is_lt, is_eq, refl, ap, sym, subst, ◌∙◌, inl, inr}
use Rattle.std.proofs.lemmas.Bool.{cases_Bool}
use Rattle.std.proofs.lemmas.List.Sums.{fold-append}
use Rattle.std.specs.BTreeMap.{insert_entry}
use Rattle.std.specs.Cmp.{IsTotalOrder}
use Rattle.std.specs.FinMap.Entries.{by_order, put, find, below_all, is_sorted, is_sorted-put, find-put, same_entries}
use Rattle.std.specs.List.{AllByRecursion}
use Rattle.std.specs.Map.{values_of}
use Rattle.std.specs.Option.{option_or}
use Rattle.std.specs.Ordering.{eq_by_cmp, match_ordering}
use Rattle.mx_window.specs.Lasts.{last_of}
use Rattle.mx_window.proofs.Lasts.{option_or-none}
use Rattle.mx_fold.specs.Latest.{set_item, latest, over}

-- the order tells keys apart
abbrev pub IsExact : {K : Type 0} → (K → K → Ordering) → Type 0
IsExact {K} cmp = (k l : K) → cmp k l ≡ Equal → k ≡ l

module _ {K V : Type 0} (cmp : K → K → Ordering) where
  -- the map's insertion is std's `put`
  put_is : (k : K) (v : V) (es : List (K × V)) → insert_entry cmp es k v ≡ put cmp k v es
  put_is k v [] = refl
  put_is k v (e ∷ es) = elim (cmp k e.0)
      as (λ o. match_ordering o ((k, v) ∷ e ∷ es) ((e.0, v) ∷ es) (e ∷ insert_entry cmp es k v)
      ≡ by_order o ((k, v) ∷ e ∷ es) ((e.0, v) ∷ es) (e ∷ put cmp k v es)) [
        | Less ↦ refl
        | Equal ↦ refl
        | Greater ↦ ap (λ l. e ∷ l) (put_is k v es)
      ]

  sorted_more : IsTotalOrder cmp → (k : K) (v : V) (es : List (K × V)) → T (is_sorted cmp es) → T (is_sorted cmp (insert_entry cmp es k v))
  sorted_more total k v es h = subst (λ l. T (is_sorted cmp l)) (sym (put_is k v es)) (is_sorted-put cmp total k v es h)

  found_more : IsTotalOrder cmp → (q k : K) (v : V) (es : List (K × V))
      → find cmp q (insert_entry cmp es k v) ≡ cond (eq_by_cmp cmp q k) (Some v) (find cmp q es)
  found_more total q k v es = ap (find cmp q) (put_is k v es) ∙ find-put cmp total q k v es

module _ {K X V : Type 0} (cmp : K → K → Ordering) (total : IsTotalOrder cmp) (key : X → K) (value : X → V) where
  pub all_sorted : (m : List (K × V)) (xs : List X) → T (is_sorted cmp m) → T (is_sorted cmp (fold (set_item cmp key value) m xs))
  all_sorted m [] h = h
  all_sorted m (x ∷ xs) h = all_sorted (set_item cmp key value m x) xs (sorted_more cmp total (key x) (value x) m h)

  -- under a key stands the value of the last item that has it, or what stood there
  pub all_found : (q : K) (m : List (K × V)) (xs : List X)
      → find cmp q (fold (set_item cmp key value) m xs) ≡ option_or (option_map value (last_of (λ x. eq_by_cmp cmp q (key x)) xs)) (find cmp q m)
  all_found q m [] = refl
  all_found q m (x ∷ xs) =
      all_found q (set_item cmp key value m x) xs
      ∙ ap (λ o. option_or (option_map value (last_of (λ y. eq_by_cmp cmp q (key y)) xs)) o) (found_more cmp total q (key x) (value x) m)
      ∙ step (last_of (λ y. eq_by_cmp cmp q (key y)) xs) (eq_by_cmp cmp q (key x)) where
        step : (o : Option X) (b : Bool) → option_or (option_map value o) (cond b (Some (value x)) (find cmp q m))
            ≡ option_or (option_map value (option_or o (cond b (Some x) None))) (find cmp q m)
        step (Some y) true = refl
        step (Some y) false = refl
        step None true = refl
        step None false = refl

pub less_is : (o : Ordering) → T (is_lt o) → o ≡ Less
less_is Less h = refl
less_is Equal h = absurd h
less_is Greater h = absurd h

pub equal_is : (o : Ordering) → is_eq o ≡ true → o ≡ Equal
equal_is Less h = absurd cc
equal_is Equal h = refl
equal_is Greater h = absurd cc

pub left : (a b : Bool) → T (a && b) → T a
left true b h = tt
left false b h = h

pub right : (a b : Bool) → T (a && b) → T b
right true b h = h
right false b h = absurd h

module _ {K V : Type 0} (cmp : K → K → Ordering) (total : IsTotalOrder cmp) where
  -- a key that ties with the first of an ascending list isn't found behind it
  pub not_behind : (q k : K) (es : List (K × V)) → cmp q k ≡ Equal → T (below_all cmp k es) → find cmp q es ≡ None
  not_behind q k [] tied low = refl
  not_behind q k (e ∷ es) tied low =
      let first : cmp q e.0 ≡ Less = total.congr q k e.0 tied ∙ less_is (cmp k e.0) (left (is_lt (cmp k e.0)) (below_all cmp k es) low) in
      ap (λ o. cond (is_eq o) (Some e.1) (find cmp q es)) first ∙ not_behind q k es tied (right (is_lt (cmp k e.0)) (below_all cmp k es) low)

  -- of entries in order the first with a key is the last with it
  pub last_is_first : (q : K) (d : List (K × V)) → T (is_sorted cmp d)
      → option_map (λ (p : K × V). p.1) (last_of (λ (p : K × V). eq_by_cmp cmp q p.0) d) ≡ find cmp q d
  last_is_first q [] h = refl
  last_is_first q (e ∷ es) h =
      let rest = last_is_first q es (right (below_all cmp e.0 es) (is_sorted cmp es) h) in
      elim (cases_Bool (eq_by_cmp cmp q e.0)) [
        | inl a ↦
            let none : find cmp q es ≡ None = not_behind q e.0 es (equal_is (cmp q e.0) a) (left (below_all cmp e.0 es) (is_sorted cmp es) h) in
            ap (λ b. option_map (λ (p : K × V). p.1) (option_or (last_of (λ (p : K × V). eq_by_cmp cmp q p.0) es) (cond b (Some e) None))) a
            ∙ only (last_of (λ (p : K × V). eq_by_cmp cmp q p.0) es) (rest ∙ none)
            ∙ sym (ap (λ b. cond b (Some e.1) (find cmp q es)) a)
        | inr a ↦
            ap (λ b. option_map (λ (p : K × V). p.1) (option_or (last_of (λ (p : K × V). eq_by_cmp cmp q p.0) es) (cond b (Some e) None))) a
            ∙ same (last_of (λ (p : K × V). eq_by_cmp cmp q p.0) es) ∙ rest
            ∙ sym (ap (λ b. cond b (Some e.1) (find cmp q es)) a)
      ] where
        only : (o : Option (K × V)) → option_map (λ (p : K × V). p.1) o ≡ None → option_map (λ (p : K × V). p.1) (option_or o (Some e)) ≡ Some e.1
        only None none = refl
        only (Some p) none = absurd cc

        same : (o : Option (K × V)) → option_map (λ (p : K × V). p.1) (option_or o None) ≡ option_map (λ (p : K × V). p.1) o
        same None = refl
        same (Some p) = refl

pub latest_join : {K X V : Type 0} (cmp : K → K → Ordering) → IsTotalOrder cmp → IsExact cmp → (key : X → K) (value : X → V) (xs ys : List X)
    → over cmp (latest cmp key value xs) (latest cmp key value ys) ≡ latest cmp key value (xs ++ ys)
latest_join {K = K} {V = V} cmp total exact key value xs ys =
    let before = latest cmp key value xs in
    let after = latest cmp key value ys in
    let sorted_before = all_sorted cmp total key value [] xs tt in
    let sorted_after = all_sorted cmp total key value [] ys tt in
    same_entries cmp total exact (over cmp before after) (latest cmp key value (xs ++ ys))
    (all_sorted cmp total (λ (p : K × V). p.0) (λ (p : K × V). p.1) before after sorted_before)
    (all_sorted cmp total key value [] (xs ++ ys) tt)
    (λ q. all_found cmp total (λ (p : K × V). p.0) (λ (p : K × V). p.1) q before after
    ∙ ap (λ o. option_or o (find cmp q before)) (last_is_first cmp total q after sorted_after
    ∙ all_found cmp total key value q [] ys
    ∙ option_or-none (option_map value (last_of (λ x. eq_by_cmp cmp q (key x)) ys)))
    ∙ sym (ap (find cmp q) (fold-append (set_item cmp key value) [] xs ys) ∙ all_found cmp total key value q before ys))

pub latest_are_last : {K X V : Type 0} (cmp : K → K → Ordering) → IsTotalOrder cmp → (key : X → K) (value : X → V) (q : K) (xs : List X)
    → find cmp q (latest cmp key value xs) ≡ option_map value (last_of (λ x. eq_by_cmp cmp q (key x)) xs)
latest_are_last cmp total key value q xs = all_found cmp total key value q [] xs ∙ option_or-none (option_map value (last_of (λ x. eq_by_cmp cmp q (key x)) xs))

-- items under their own keys
module _ {K X : Type 0} (cmp : K → K → Ordering) (exact : IsExact cmp) (key : X → K) where
  keyed_more : (k : K) (x : X) (es : List (K × X)) → k ≡ key x → AllByRecursion (λ (p : K × X). p.0 ≡ key p.1) es
      → AllByRecursion (λ (p : K × X). p.0 ≡ key p.1) (insert_entry cmp es k x)
  keyed_more k x [] is all = (is, tt)
  keyed_more k x (e ∷ es) is all =
      elim (cmp k e.0)
      as (λ o. cmp k e.0 ≡ o
      → AllByRecursion (λ (p : K × X). p.0 ≡ key p.1) (match_ordering o ((k, x) ∷ e ∷ es) ((e.0, x) ∷ es) (e ∷ insert_entry cmp es k x))) [
        | Less ↦ λ h. (is, all)
        | Equal ↦ λ h. (sym (exact k e.0 h) ∙ is, all.1)
        | Greater ↦ λ h. (all.0, keyed_more k x es is all.1)
      ] refl

  all_keyed : (m : List (K × X)) (xs : List X) → AllByRecursion (λ (p : K × X). p.0 ≡ key p.1) m
      → AllByRecursion (λ (p : K × X). p.0 ≡ key p.1) (fold (set_item cmp key (λ x. x)) m xs)
  all_keyed m [] all = all
  all_keyed m (x ∷ xs) all = all_keyed (insert_entry cmp m (key x) x) xs (keyed_more (key x) x m refl all)

  keys_again : (m : List (K × X)) → AllByRecursion (λ (p : K × X). p.0 ≡ key p.1) m → map (λ x. (key x, x)) (values_of m) ≡ m
  keys_again [] all = refl
  keys_again (p ∷ m) all = let is : p.0 ≡ key p.1 = all.0 in λ i. (sym is i, p.1) ∷ keys_again m all.1 i

  -- the latest items give their entries again
  pub latest_keyed : (xs : List X) → map (λ x. (key x, x)) (values_of (latest cmp key (λ x. x) xs)) ≡ latest cmp key (λ x. x) xs
  latest_keyed xs = keys_again (latest cmp key (λ x. x) xs) (all_keyed [] xs tt)
