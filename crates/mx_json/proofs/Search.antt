-- A binary search by key among members in order.
use Rattle.std.proofs.Common.{◌≡◌, ℕ, ◌<◌, ◌≤◌, zero, suc, List, [], ◌∷◌, length, slice_index_or, slice_set, true, Some, None, Result, Ok, Err, IfOk, IfErr, OnOk, OnErr, Ordering, Less, Equal, Greater, refl, sym, ap, ◌∙◌, subst, arith}
use Rattle.std.specs.List.{AllByRecursion, insert}
use Rattle.std.specs.List.Sorted.{IsNonDecreasingBy, IsPartitionPoint, IsSearchInRange, IsBinarySearchResult}
use Rattle.std.specs.Ordering.{nat_cmp, ordering_index, ordering_reverse, is_eq, is_lt}
use Rattle.std.specs.Cmp.Lexicographic.{slice_cmp}
use Rattle.std.proofs.lemmas.Bool.{and_parts}
use Rattle.std.proofs.lemmas.Cmp.{nat_list_cmp_total}
use Rattle.std.proofs.lemmas.Map.Text.{is_eq-slice_cmp}
use Rattle.mx_json.specs.Keys.{keys_of, are_ordered, value_at, set_before, with_member}
use Rattle.mx_json.specs.Places.{order, IsPlaceOf, IsPlaceFor}
use Rattle.mx_json.specs.declared.members.Member.{Member}
use Rattle.mx_json.proofs.Order.{below_rest, ordered_rest}

-- of two answers of which the first is less wherever the second isn't greater
ranks : (a b : Ordering) → (b ≡ Less → a ≡ Less) → (b ≡ Equal → a ≡ Less) → ordering_index a ≤ ordering_index b
ranks Less b f g = omega arith
ranks Equal Less f g = cc (f refl)
ranks Equal Equal f g = omega arith
ranks Equal Greater f g = omega arith
ranks Greater Less f g = cc (f refl)
ranks Greater Equal f g = cc (g refl)
ranks Greater Greater f g = omega arith

less_of_equal : (k l key : List ℕ) → slice_cmp nat_cmp k l ≡ Less → slice_cmp nat_cmp l key ≡ Equal → slice_cmp nat_cmp k key ≡ Less
less_of_equal k l key less same = nat_list_cmp_total.antisymm k key ∙ ap ordering_reverse (sym (nat_list_cmp_total.congr l key k same) ∙ (nat_list_cmp_total.antisymm l k ∙ ap ordering_reverse less))

-- a lesser key comes no later against any key
rises_by : (k l key : List ℕ) → slice_cmp nat_cmp k l ≡ Less → ordering_index (slice_cmp nat_cmp k key) ≤ ordering_index (slice_cmp nat_cmp l key)
rises_by k l key less = ranks (slice_cmp nat_cmp k key) (slice_cmp nat_cmp l key) (λ below. nat_list_cmp_total.trans k l key less below) (λ same. less_of_equal k l key less same)

below_at : {V : Type 0} (k : List ℕ) (ms : List (Member V)) → AllByRecursion (λ l. slice_cmp nat_cmp k l ≡ Less) (keys_of ms) → (i : ℕ) (d : Member V) → i < length ms → slice_cmp nat_cmp k (slice_index_or ms i d).key ≡ Less
below_at k [] all i d lt = absurd (omega (arith, lt))
below_at k (m ∷ ms) all zero d lt = all.0
below_at k (m ∷ ms) all (suc i) d lt = below_at k ms all.1 i d (omega (arith, lt))

turned : (key k : List ℕ) (o : Ordering) → slice_cmp nat_cmp k key ≡ o → slice_cmp nat_cmp key k ≡ ordering_reverse o
turned key k o is = nat_list_cmp_total.antisymm key k ∙ ap ordering_reverse is

module _ {V : Type 0} (key : List ℕ) where
  -- along members in order the answers of a comparison with the key rise
  rises : (ms : List (Member V)) → are_ordered (keys_of ms) ≡ true → IsNonDecreasingBy (λ m. ordering_index (order key m)) ms
  rises [] h i j d le lt = absurd (omega (arith, lt))
  rises (m ∷ ms) h zero zero d le lt = omega arith
  rises (m ∷ ms) h zero (suc j) d le lt = rises_by m.key (slice_index_or ms j d).key key (below_at m.key ms (below_rest m.key (keys_of ms) h) j d (omega (arith, lt)))
  rises (m ∷ ms) h (suc i) zero d le lt = absurd (omega (arith, le))
  rises (m ∷ ms) h (suc i) (suc j) d le lt = rises ms (ordered_rest m.key (keys_of ms) h) i j d (omega (arith, le)) (omega (arith, lt))

  -- a binary search ends at the key, or at the place for it
  place_parted : (ms : List (Member V)) → are_ordered (keys_of ms) ≡ true → (i : ℕ) → i ≤ length ms → (IsNonDecreasingBy (λ m. ordering_index (order key m)) ms → IsPartitionPoint (λ m. order key m ≡ Less) (λ m. order key m ≡ Greater) ms i) → IsPlaceFor key ms i
  place_parted ms h i within parted = record { within = within; before = (parted (rises ms h)).0; behind = (parted (rises ms h)).1 }

  pub searched : (ms : List (Member V)) → are_ordered (keys_of ms) ≡ true → (r : Result ℕ ℕ) → IsSearchInRange r (length ms) → IsBinarySearchResult (order key) ms r → IfOk r (IsPlaceOf key ms) × IfErr r (IsPlaceFor key ms)
  searched ms h (Ok i) bound position = (record { within = bound; equal = position }, tt)
  searched ms h (Err i) bound position = (tt, place_parted ms h i bound position)

  first_of : (m : Member V) (ms : List (Member V)) (i : ℕ) → IsPlaceFor key (m ∷ ms) (suc i) → order key m ≡ Less
  first_of m ms i p = p.before 0 m (omega arith) (omega arith)

  rest_of : (m : Member V) (ms : List (Member V)) (i : ℕ) → IsPlaceFor key (m ∷ ms) (suc i) → IsPlaceFor key ms i
  rest_of m ms i p = record {
    within = omega (arith, p.within);
    before = λ j d low high. p.before (suc j) d (omega arith) (omega (arith, high));
    behind = λ j d low high. p.behind (suc j) d (omega (arith, low)) (omega (arith, high));
  }

  above_of : (m : Member V) (ms : List (Member V)) → IsPlaceFor key (m ∷ ms) 0 → order key m ≡ Greater
  above_of m ms p = p.behind 0 m (omega arith) (omega arith)

  next_of : (m : Member V) (ms : List (Member V)) (i : ℕ) → IsPlaceOf key (m ∷ ms) (suc i) → IsPlaceOf key ms i
  next_of m ms i p = record { within = omega (arith, p.within); equal = λ d. p.equal d }

  first_below : (m : Member V) (ms : List (Member V)) → are_ordered (keys_of (m ∷ ms)) ≡ true → (i : ℕ) → IsPlaceOf key (m ∷ ms) (suc i) → order key m ≡ Less
  first_below m ms h i p = less_of_equal m.key (slice_index_or ms i m).key key (below_at m.key ms (below_rest m.key (keys_of ms) h) i m (omega (arith, p.within))) (p.equal m)

  -- the value of the member that has the key
  pub value_found : (ms : List (Member V)) → are_ordered (keys_of ms) ≡ true → (i : ℕ) (d : Member V) → IsPlaceOf key ms i → value_at key ms ≡ Some ((slice_index_or ms i d).value)
  value_found [] h i d p = absurd (omega (arith, p.within))
  value_found (m ∷ ms) h zero d p = rw (sym (is_eq-slice_cmp m.key key) ∙ ap is_eq (p.equal d)) refl
  value_found (m ∷ ms) h (suc i) d p =
      rw (sym (is_eq-slice_cmp m.key key) ∙ ap is_eq (first_below m ms h i p)) (value_found ms (ordered_rest m.key (keys_of ms) h) i d (next_of m ms i p))

  -- no value where the key has its place between two members
  pub value_absent : (ms : List (Member V)) (i : ℕ) → IsPlaceFor key ms i → value_at key ms ≡ None
  value_absent [] i p = refl
  value_absent (m ∷ ms) zero p = rw (sym (is_eq-slice_cmp m.key key) ∙ ap is_eq (above_of m ms p)) (value_absent ms zero (record {
    within = omega arith;
    before = λ j d low high. absurd (omega (arith, high));
    behind = λ j d low high. p.behind (suc j) d (omega arith) (omega (arith, high));
  }))
  value_absent (m ∷ ms) (suc i) p = rw (sym (is_eq-slice_cmp m.key key) ∙ ap is_eq (first_of m ms i p)) (value_absent ms i (rest_of m ms i p))

  -- a value that is set goes to the place of its key
  pub set_found : (value : V) (ms : List (Member V)) → are_ordered (keys_of ms) ≡ true → (i : ℕ) → IsPlaceOf key ms i → slice_set ms i (record { key = key; value = value }) ≡ with_member key value ms
  set_found value [] h i p = absurd (omega (arith, p.within))
  set_found value (m ∷ ms) h zero p = rw (turned key m.key Equal (p.equal m)) refl
  set_found value (m ∷ ms) h (suc i) p =
      rw (turned key m.key Less (first_below m ms h i p)) (ap (λ l. m ∷ l) (set_found value ms (ordered_rest m.key (keys_of ms) h) i (next_of m ms i p)))

  pub set_absent : (value : V) (ms : List (Member V)) (i : ℕ) → IsPlaceFor key ms i → insert ms i (record { key = key; value = value }) ≡ with_member key value ms
  set_absent value [] zero p = refl
  set_absent value [] (suc i) p = absurd (omega (arith, p.within))
  set_absent value (m ∷ ms) zero p = rw (turned key m.key Greater (above_of m ms p)) refl
  set_absent value (m ∷ ms) (suc i) p = rw (turned key m.key Less (first_of m ms i p)) (ap (λ l. m ∷ l) (set_absent value ms i (rest_of m ms i p)))

-- a key that is above another, and a list whose keys are above it with a value set at the first
keeps_above : {V : Type 0} (k : List ℕ) (key : List ℕ) (value : V) (ms : List (Member V)) → slice_cmp nat_cmp k key ≡ Less → are_ordered (k ∷ keys_of ms) ≡ true → are_ordered (keys_of (with_member key value ms)) ≡ true → are_ordered (k ∷ keys_of (with_member key value ms)) ≡ true
keeps_above k key value [] less h h' = rw less refl
keeps_above k key value (m ∷ ms) less h h' = by_order (slice_cmp nat_cmp key m.key) h'
  where
    by_order : (o : Ordering) → are_ordered (keys_of (set_before o key value m ms (with_member key value ms))) ≡ true → are_ordered (k ∷ keys_of (set_before o key value m ms (with_member key value ms))) ≡ true
    by_order Less g = rw less g
    by_order Equal g = rw less g
    by_order Greater g = rw (and_parts (is_lt (slice_cmp nat_cmp k m.key)) _ h).0 g

-- members with a value set stay in order
pub set_ordered : {V : Type 0} (key : List ℕ) (value : V) (ms : List (Member V)) → are_ordered (keys_of ms) ≡ true → are_ordered (keys_of (with_member key value ms)) ≡ true
set_ordered key value [] h = refl
set_ordered {V} key value (m ∷ ms) h = by_order (slice_cmp nat_cmp key m.key) refl (set_ordered key value ms (ordered_rest m.key (keys_of ms) h))
  where
    same_above : (ks : List (List ℕ)) → slice_cmp nat_cmp key m.key ≡ Equal → are_ordered (m.key ∷ ks) ≡ true → are_ordered (key ∷ ks) ≡ true
    same_above [] same g = refl
    same_above (k ∷ ks) same g = rw (nat_list_cmp_total.congr key m.key k same) g

    by_order : (o : Ordering) → slice_cmp nat_cmp key m.key ≡ o → are_ordered (keys_of (with_member key value ms)) ≡ true → are_ordered (keys_of (set_before o key value m ms (with_member key value ms))) ≡ true
    by_order Less is rest = rw is h
    by_order Equal is rest = same_above (keys_of ms) is h
    by_order Greater is rest = keeps_above m.key key value ms (turned m.key key Greater is) h rest

-- the same for a key and members that go by other names
pub set_at_place : {V : Type 0} (text key : List ℕ) (value : V) (seen entries whole : List (Member V)) (i : ℕ) → text ≡ key → seen ≡ whole → entries ≡ whole → are_ordered (keys_of entries) ≡ true → IsPlaceOf text seen i
    → slice_set entries i (record { key = key; value = value }) ≡ with_member key value whole
set_at_place {V} text key value seen entries whole i is same also h p =
    set_found key value entries h i (subst (λ (x : List ℕ × List (Member V)). IsPlaceOf x.0 x.1 i) (λ j. (is j, (same ∙ sym also) j)) p) ∙ ap (with_member key value) also

pub insert_at_place : {V : Type 0} (text key : List ℕ) (value : V) (seen entries whole : List (Member V)) (i : ℕ) → text ≡ key → seen ≡ whole → entries ≡ whole → IsPlaceFor text seen i
    → insert entries i (record { key = key; value = value }) ≡ with_member key value whole
insert_at_place {V} text key value seen entries whole i is same also p =
    set_absent key value entries i (subst (λ (x : List ℕ × List (Member V)). IsPlaceFor x.0 x.1 i) (λ j. (is j, (same ∙ sym also) j)) p) ∙ ap (with_member key value) also

-- members that are those with a value set are in order
pub in_order : {V : Type 0} (key : List ℕ) (value : V) (ms old : List (Member V)) → are_ordered (keys_of old) ≡ true → ms ≡ with_member key value old → are_ordered (keys_of ms) ≡ true
in_order key value ms old h is = ap (λ l. are_ordered (keys_of l)) is ∙ set_ordered key value old h

-- members that had a value set, or are as they were, are in order
pub in_order_after : {V A E : Type 0} (key : List ℕ) (value : V) (ms old : List (Member V)) (result : Result A E) → are_ordered (keys_of old) ≡ true → OnOk result (ms ≡ with_member key value old) → OnErr result (ms ≡ old) → are_ordered (keys_of ms) ≡ true
in_order_after key value ms old (Ok _) h new same = in_order key value ms old h new
in_order_after key value ms old (Err _) h new same = ap (λ l. are_ordered (keys_of l)) same ∙ h
