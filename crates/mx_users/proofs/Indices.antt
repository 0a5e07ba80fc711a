-- What the look-ups of a list find once a user or a device is added.
use Rattle.std.proofs.Common.{◌≡◌, ℕ, ◌+◌, ◌≤◌, Bool, true, false, cond, not, ◌&&◌, ◌||◌, ◌==◌, List, [], ◌∷◌, ◌++◌, length, suc, refl, sym, ap, ap₂, subst, ◌∙◌, arith, Option, None, Some, BTreeMap, BTreeSet, nat_cmp, is_eq, Ordering, ltb}
use Rattle.std.proofs.lemmas.Bool.{cases_Bool, cond-true, cond-false}
use Rattle.std.proofs.lemmas.Bool.Decides.{nat_tests}
use Rattle.std.proofs.lemmas.Grind.{common_steps}
use Rattle.std.proofs.lemmas.List.{length_push}
use Rattle.std.proofs.lemmas.List.Folds.{list_any-append, position_or_len_push}
use Rattle.std.proofs.lemmas.List.Sums.{prefix_len-le-length}
use Rattle.std.proofs.lemmas.Map.Text.{is_eq-slice_cmp}
use Rattle.std.proofs.lemmas.Option.{cond_some}
use Rattle.std.proofs.lemmas.Slice.Eq.{bytes_eq-Decides}
use Rattle.std.specs.BTreeMap as tree
use Rattle.std.specs.BTreeSet as sorted
use Rattle.std.specs.Cmp.{tied_then, unsigned_tied}
use Rattle.std.specs.Cmp.Lexicographic.{slice_cmp}
use Rattle.std.specs.List.{list_any, position, position_or_len}
use Rattle.std.specs.Option.{is_some}
use Rattle.std.specs.Ordering.{ordering_then}
use Rattle.std.specs.Str.{bytes_eq}
use mathlib.Core.Logic.{⊎_elim}
use Rattle.mx_ids.specs.declared.users.Device.{Device}
use Rattle.mx_users.specs.Finds.{device_at, user_at}
use Rattle.mx_users.specs.UsersFile.{number_of, has_name, has_token}

-- the order of the pairs of a user's number and a device's name
abbrev pub name_cmp : ℕ × List ℕ → ℕ × List ℕ → Ordering
name_cmp x y = ordering_then (nat_cmp x.0 y.0) (slice_cmp nat_cmp x.1 y.1)

name_tie : (u v : ℕ) (n m : List ℕ) → is_eq (name_cmp (u, n) (v, m)) ≡ ((u == v) && bytes_eq n m)
name_tie u v n m = sym (tied_then (nat_cmp u v) (slice_cmp nat_cmp n m)) ∙ ap₂ (λ s t. s && t) (unsigned_tied u v) (is_eq-slice_cmp n m)

or_last : (t c : Bool) → cond t true c ≡ (c || (t || false))
or_last true true = refl
or_last true false = refl
or_last false true = refl
or_last false false = refl

named_push : (s n : BTreeSet (ℕ × List ℕ)) (ds : List Device) (d : Device) → sorted.Updates name_cmp s n (d.user, d.name) true
    → ((u : ℕ) (m : List ℕ) → sorted.contains name_cmp s (u, m) ≡ has_name ds u m) → (u : ℕ) (m : List ℕ) → sorted.contains name_cmp n (u, m) ≡ has_name (ds ++ d ∷ []) u m
named_push s n ds d h old u m =
    let t : Device → Bool = λ d. (d.user == u) && bytes_eq d.name m in
    h.0 (u, m) ∙ ap₂ (λ b c. cond b true c) (name_tie d.user u d.name m) (old u m) ∙ or_last (t d) (list_any t ds) ∙ sym (list_any-append t ds (d ∷ []))

-- ---- the first that passes a test

module _ {X : Type 0} (p : X → Bool) where
  pub any_within : (xs : List X) → ltb (position_or_len p xs) (length xs) ≡ list_any p xs
  any_within [] = refl
  any_within (x ∷ xs) = by (p x) (any_within xs)
    where
      onward : (n m : ℕ) → ltb (1 + n) (suc m) ≡ ltb n m
      onward n m = grind (arith, nat_tests)

      by : (b : Bool) → ltb (position_or_len p xs) (length xs) ≡ list_any p xs → ltb (cond (not b) (1 + position_or_len p xs) 0) (length (x ∷ xs)) ≡ (b || list_any p xs)
      by true e = grind (arith, nat_tests)
      by false e = onward (position_or_len p xs) (length xs) ∙ e

  pub found_any : (xs : List X) → is_some (position p xs) ≡ list_any p xs
  found_any xs = by (ltb (position_or_len p xs) (length xs)) (position_or_len p xs) ∙ any_within xs
    where
      by : (b : Bool) (n : ℕ) → is_some (cond b (Some n) None) ≡ b
      by true n = refl
      by false n = refl

  -- of one more that stands last

  pub place_push : (xs : List X) (x : X) → list_any p xs ≡ false → p x ≡ true → position_or_len p (xs ++ x ∷ []) ≡ length xs
  place_push xs x none hit =
      let most : position_or_len p xs ≤ length xs = prefix_len-le-length (λ y. not (p y)) xs in
      let past : ltb (position_or_len p xs) (length xs) ≡ false = any_within xs ∙ none in
      let pushed = position_or_len_push p xs x in
      grind (arith, common_steps, nat_tests)

  hit_push : (xs : List X) (x : X) → list_any p xs ≡ false → p x ≡ true → position p (xs ++ x ∷ []) ≡ Some (length xs)
  hit_push xs x none hit =
      let at = place_push xs x none hit in
      let longer = length_push xs x in
      grind (arith, common_steps, nat_tests)

  miss_push : (xs : List X) (x : X) → p x ≡ false → position p (xs ++ x ∷ []) ≡ position p xs
  miss_push xs x miss =
      let most : position_or_len p xs ≤ length xs = prefix_len-le-length (λ y. not (p y)) xs in
      let pushed = position_or_len_push p xs x in
      let longer = length_push xs x in
      grind (arith, common_steps, nat_tests)

-- ---- a map that has the place of each key in a list, with one more that stands last

abbrev pub Places : {X : Type 0} → (X → List ℕ) → BTreeMap (List ℕ) ℕ → List X → Type 0
Places key m xs = (q : List ℕ) → tree.get (slice_cmp nat_cmp) m q ≡ position (λ x. bytes_eq (key x) q) xs

module _ {X : Type 0} (key : X → List ℕ) where
  places_push : (m n : BTreeMap (List ℕ) ℕ) (xs : List X) (x : X) → list_any (λ y. bytes_eq (key y) (key x)) xs ≡ false → tree.Updates (slice_cmp nat_cmp) m n (key x) (Some (length xs))
      → Places key m xs → Places key n (xs ++ x ∷ [])
  places_push m n xs x none h old q =
      h.0 q ∙ ap (λ b. cond b (Some (length xs)) (tree.get (slice_cmp nat_cmp) m q)) (is_eq-slice_cmp (key x) q) ∙ ⊎_elim
      (λ hit. cond-true _ _ _ hit ∙ sym (hit_push (λ y. bytes_eq (key y) (key x)) xs x none ((bytes_eq-Decides (key x) (key x)).1 refl))
      ∙ ap (λ r. position (λ y. bytes_eq (key y) r) (xs ++ x ∷ [])) ((bytes_eq-Decides (key x) q).0 hit))
      (λ miss. cond-false _ _ _ miss ∙ old q ∙ sym (miss_push (λ y. bytes_eq (key y) q) xs x miss))
      (cases_Bool (bytes_eq (key x) q))

  -- the same where the equations of a call stand apart
  pub places_after : (m n : BTreeMap (List ℕ) ℕ) (xs ys : List X) (x : X) (copy : List ℕ) (number : ℕ) → list_any (λ y. bytes_eq (key y) (key x)) xs ≡ false → copy ≡ key x → number ≡ length xs → ys ≡ xs ++ x ∷ []
      → tree.Updates (slice_cmp nat_cmp) m n copy (Some number) → Places key m xs → Places key n ys
  places_after m n xs ys x copy number none k l e h old q =
      let at_key = subst (λ t. tree.Updates (slice_cmp nat_cmp) m n t (Some number)) k h in
      places_push m n xs x none (subst (λ i. tree.Updates (slice_cmp nat_cmp) m n (key x) (Some i)) l at_key) old q ∙ ap (λ zs. position (λ y. bytes_eq (key y) q) zs) (sym e)

-- ---- users

-- what the index finds is the user's number
pub found_at : (us : List (List ℕ)) (id : List ℕ) (n : ℕ) → Some n ≡ user_at us id → n ≡ number_of us id
found_at us id n e = sym (cond_some (ltb (number_of us id) (length us)) (number_of us id) n (sym e)).1

-- where it finds none, the user is absent
pub absent_at : (us : List (List ℕ)) (id : List ℕ) → None ≡ user_at us id → list_any (λ u. bytes_eq u id) us ≡ false
absent_at us id e = sym (found_any (λ u. bytes_eq u id) us) ∙ ap is_some (sym e)

-- the number of a user that was absent, once it is the last
pub number_push : (us : List (List ℕ)) (id : List ℕ) → list_any (λ u. bytes_eq u id) us ≡ false → number_of (us ++ id ∷ []) id ≡ length us
number_push us id none = place_push (λ u. bytes_eq u id) us id none ((bytes_eq-Decides id id).1 refl)

-- ---- devices

pub token_found : (ds : List Device) (token : List ℕ) (o : Option ℕ) → o ≡ device_at ds token → is_some o ≡ has_token ds token
token_found ds token o e = ap is_some e ∙ found_any (λ d. bytes_eq d.token token) ds

-- ---- the names of devices, with one device more

pub named_after : (s n : BTreeSet (ℕ × List ℕ)) (ds es : List Device) (d : Device) (key : List ℕ) → key ≡ d.name → es ≡ ds ++ d ∷ [] → sorted.Updates name_cmp s n (d.user, key) true
    → ((u : ℕ) (m : List ℕ) → sorted.contains name_cmp s (u, m) ≡ has_name ds u m) → (u : ℕ) (m : List ℕ) → sorted.contains name_cmp n (u, m) ≡ has_name es u m
named_after s n ds es d key k e h old u m = named_push s n ds d (subst (λ x. sorted.Updates name_cmp s n (d.user, x) true) k h) old u m ∙ ap (λ l. has_name l u m) (sym e)
