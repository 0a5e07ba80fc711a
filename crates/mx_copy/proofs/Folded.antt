-- Objects into which members were put one after the other.
use Rattle.std.proofs.Common.{◌≡◌, ℕ, Bool, true, false, cond, List, [], ◌∷◌, fold, Option, Some, None, option_map, option_and_then, Ordering, Less, Equal, Greater, is_eq, nat_cmp, refl, sym, ap, ◌∙◌, inl, inr}
use Rattle.std.proofs.lemmas.Bool.{cases_Bool}
use Rattle.std.proofs.lemmas.Map.Text.{is_eq-slice_cmp}
use Rattle.std.proofs.lemmas.Slice.Eq.{bytes_eq-Decides}
use Rattle.std.specs.Cmp.Lexicographic.{slice_cmp}
use Rattle.std.specs.List.{AllByRecursion}
use Rattle.std.specs.Option.{option_or}
use Rattle.std.specs.Str.{bytes_eq}
use Rattle.mx_window.specs.Lasts.{last_of}
use Rattle.mx_window.proofs.Lasts.{option_or-none}
use Rattle.mx_json.specs.Keys.{are_ordered, keys_of, set_before, value_at, with_member}
use Rattle.mx_json.specs.declared.members.Member.{Member}
use Rattle.mx_json.specs.declared.value.Json.{Json}
use Rattle.mx_json.specs.declared.value.Json.TheVariants as json
use Rattle.mx_json.proofs.Search.{set_ordered}
use Rattle.mx_copy.proofs.Tests.{everywhere}
use Rattle.mx_copy.specs.Looks.{each, keyed, read_at, values_of}
use Rattle.mx_copy.proofs.Looks.{object_back}

-- two tests in either order
shadowed : {A : Type 0} (a b : Bool) (x y z : A) → b ≡ a → cond a x z ≡ cond a x (cond b y z)
shadowed true b x y z same = refl
shadowed false b x y z same = sym (ap (λ c. cond c y z) same)

swapped : {A : Type 0} (a b : Bool) (x y z : A) → (b ≡ true → a ≡ false) → cond b y (cond a x z) ≡ cond a x (cond b y z)
swapped a true x y z apart = sym (ap (λ c. cond c x y) (apart refl))
swapped a false x y z apart = refl

module _ (k l q : List ℕ) where
  same_test : slice_cmp nat_cmp k l ≡ Equal → bytes_eq l q ≡ bytes_eq k q
  same_test is = ap (λ x. bytes_eq x q) (sym ((bytes_eq-Decides k l).0 (sym (is_eq-slice_cmp k l) ∙ ap is_eq is)))

  other_test : slice_cmp nat_cmp k l ≡ Greater → bytes_eq l q ≡ true → bytes_eq k q ≡ false
  other_test is second = elim (cases_Bool (bytes_eq k q)) [
    | inl first ↦
        let same : k ≡ l = (bytes_eq-Decides k q).0 first ∙ sym ((bytes_eq-Decides l q).0 second) in
        let clash : true ≡ false = sym ((bytes_eq-Decides k l).1 same) ∙ sym (is_eq-slice_cmp k l) ∙ ap is_eq is in
        absurd cc
    | inr none ↦ none
  ]

-- what stands at a key after one was put in
at_key : {V : Type 0} (q k : List ℕ) (v : V) (ms : List (Member V)) → value_at q (with_member k v ms) ≡ cond (bytes_eq k q) (Some v) (value_at q ms)
at_key q k v [] = refl
at_key {V = V} q k v (m ∷ ms) = by_order (slice_cmp nat_cmp k m.key) refl (at_key q k v ms)
  where
    by_order : (o : Ordering) → slice_cmp nat_cmp k m.key ≡ o → value_at q (with_member k v ms) ≡ cond (bytes_eq k q) (Some v) (value_at q ms)
        → value_at q (set_before o k v m ms (with_member k v ms)) ≡ cond (bytes_eq k q) (Some v) (cond (bytes_eq m.key q) (Some m.value) (value_at q ms))
    by_order Less is rest = refl
    by_order Equal is rest = shadowed (bytes_eq k q) (bytes_eq m.key q) (Some v) (Some m.value) (value_at q ms) (same_test k m.key q is)
    by_order Greater is rest = ap (cond (bytes_eq m.key q) (Some m.value)) rest
        ∙ swapped (bytes_eq k q) (bytes_eq m.key q) (Some v) (Some m.value) (value_at q ms) (other_test k m.key q is)

-- what holds of each member holds after one was put in of which it holds
all_members : {V : Type 0} (P : Member V → Type 0) (k : List ℕ) (v : V) (ms : List (Member V)) → P (record { key = k; value = v }) → AllByRecursion P ms → AllByRecursion P (with_member k v ms)
all_members P k v [] is all = (is, tt)
all_members {V = V} P k v (m ∷ ms) is all = by_order (slice_cmp nat_cmp k m.key) (all_members P k v ms is all.1)
  where
    by_order : (o : Ordering) → AllByRecursion P (with_member k v ms) → AllByRecursion P (set_before o k v m ms (with_member k v ms))
    by_order Less rest = (is, all)
    by_order Equal rest = (is, all.1)
    by_order Greater rest = (all.0, rest)

module _ {X V : Type 0} (key : X → List ℕ) (make : X → V) where
  -- items put in under their keys
  abbrev pub put : List (Member V) → X → List (Member V)
  put ms x = with_member (key x) (make x) ms

  pub found_folded : (q : List ℕ) (ms : List (Member V)) (xs : List X) → value_at q (fold put ms xs) ≡ option_or (option_map make (last_of (λ x. bytes_eq (key x) q) xs)) (value_at q ms)
  found_folded q ms [] = refl
  found_folded q ms (x ∷ xs) = found_folded q (put ms x) xs
      ∙ ap (option_or (option_map make (last_of (λ y. bytes_eq (key y) q) xs))) (at_key q (key x) (make x) ms)
      ∙ step (last_of (λ y. bytes_eq (key y) q) xs) (bytes_eq (key x) q)
    where
      step : (o : Option X) (b : Bool) → option_or (option_map make o) (cond b (Some (make x)) (value_at q ms)) ≡ option_or (option_map make (option_or o (cond b (Some x) None))) (value_at q ms)
      step (Some y) b = refl
      step None true = refl
      step None false = refl

  pub all_folded : (Q : X → Type 0) (P : Member V → Type 0) → ((x : X) → Q x → P (record { key = key x; value = make x })) → (ms : List (Member V)) (xs : List X)
      → AllByRecursion P ms → AllByRecursion Q xs → AllByRecursion P (fold put ms xs)
  all_folded Q P holds ms [] all items = all
  all_folded Q P holds ms (x ∷ xs) all items = all_folded Q P holds (put ms x) xs (all_members P (key x) (make x) ms (holds x items.0) all) items.1

  pub ordered_folded : (ms : List (Member V)) (xs : List X) → are_ordered (keys_of ms) ≡ true → are_ordered (keys_of (fold put ms xs)) ≡ true
  ordered_folded ms [] order = order
  ordered_folded ms (x ∷ xs) order = ordered_folded (put ms x) xs (set_ordered (key x) (make x) ms order)

-- something is seen in a value
abbrev pub IsSeen : {A : Type 0} → (Json → Option A) → Json → Type 0
IsSeen {A} see j = (a : A) × (see j ≡ Some a)

each_seen : {A : Type 0} (see : Json → Option A) (ms : List (Member Json)) → AllByRecursion (λ m. IsSeen see m.value) ms → (seen : List A) × (each see (values_of ms) ≡ Some seen)
each_seen see [] all = ([], refl)
each_seen see (m ∷ ms) all =
    let rest = each_seen see ms all.1 in
    (all.0.0 ∷ rest.0, ap (option_and_then (λ a. option_map (λ l. a ∷ l) (each see (values_of ms)))) all.0.1 ∙ ap (option_map (λ l. all.0.0 ∷ l)) rest.1)

-- an object in each of whose values something is seen
pub keyed_from : {A : Type 0} (see : Json → Option A) (ms : List (Member Json)) → AllByRecursion (λ m. IsSeen see m.value) ms → keyed see (json.Object ms) ≡ Some (λ key. read_at see key ms)
keyed_from see ms all =
    let rest = each_seen see ms all in
    ap (option_and_then (λ ns. option_map (λ whole key. read_at see key ns) (each see (values_of ns)))) (object_back ms) ∙ ap (option_map (λ whole key. read_at see key ms)) rest.1

module _ {X A : Type 0} (see : Json → Option A) (key : X → List ℕ) (make : X → Json) (copy : X → A) (back : (x : X) → see (make x) ≡ Some (copy x)) where
  read_folded : (q : List ℕ) (xs : List X) → read_at see q (fold (put key make) [] xs) ≡ option_map copy (last_of (λ x. bytes_eq (key x) q) xs)
  read_folded q xs = ap (option_and_then see) (found_folded key make q [] xs ∙ option_or-none (option_map make (last_of (λ x. bytes_eq (key x) q) xs))) ∙ seen (last_of (λ x. bytes_eq (key x) q) xs)
    where
      seen : (o : Option X) → option_and_then see (option_map make o) ≡ option_map copy o
      seen None = refl
      seen (Some x) = back x

  pub keyed_back : (xs : List X) → keyed see (json.Object (fold (put key make) [] xs)) ≡ Some (λ q. option_map copy (last_of (λ x. bytes_eq (key x) q) xs))
  keyed_back xs = keyed_from see (fold (put key make) [] xs) (all_folded key make (λ x. Unit {0}) (λ m. IsSeen see m.value) (λ x at. (copy x, back x)) [] xs tt (everywhere (λ x. tt) xs)) ∙ (λ i. Some (λ q. read_folded q xs i))
