-- Keys in order: those that a `BTreeMap` gives, and those that go into one.
use Rattle.std.proofs.Common.{◌≡◌, ℕ, ◌+◌, List, [], ◌∷◌, ◌++◌, take, drop, map, true, Ordering, Less, Equal, Greater, refl, sym, ap, ◌∙◌, append_assoc}
use Rattle.std.proofs.lemmas.Bool.{and_parts}
use Rattle.std.proofs.lemmas.Cmp.{nat_list_cmp_total}
use Rattle.std.proofs.lemmas.List.{map-append, take-append-drop}
use Rattle.std.specs.List.{AllByRecursion}
use Rattle.std.specs.List.Sorted.{IsStrictlySortedBy}
use Rattle.std.specs.Map.{keys_of}
use Rattle.std.specs.Ordering.{is_lt, nat_cmp, ordering_reverse}
use Rattle.std.specs.Cmp.Lexicographic.{slice_cmp}
use Rattle.std.specs.String.{string_cmp, string_bytes}
use Rattle.serde_json.specs.Data.{member, put}
use Rattle.serde_json.specs.View.{members_view}
use Rattle.serde_json.proofs.Views.{Entry}
use Rattle.mx_json.specs.Keys as keys
use Rattle.mx_json.specs.Keys.{are_ordered}
use Rattle.mx_json.specs.Values.{data_of, members_data, members_of_data}
use Rattle.mx_json.specs.declared.members.Member.{Member}
use Rattle.mx_json.specs.declared.value.Json.{Json}

pub ordered_entries : (es : List Entry) → IsStrictlySortedBy string_cmp (keys_of es) → are_ordered (keys.keys_of (members_of_data (members_view es))) ≡ true
unfolding IsStrictlySortedBy
ordered_entries [] h = refl
ordered_entries (e ∷ []) h = refl
ordered_entries (e ∷ f ∷ es) h = rw h.0.0 (ordered_entries (f ∷ es) h.1)

-- the keys at the front of keys in order
pub ordered_front : (ks more : List (List ℕ)) → are_ordered (ks ++ more) ≡ true → are_ordered ks ≡ true
ordered_front [] more h = refl
ordered_front (k ∷ []) more h = refl
ordered_front (k ∷ l ∷ ks) more h = let p = and_parts (is_lt (slice_cmp nat_cmp k l)) _ h in rw p.0 (ordered_front (l ∷ ks) more p.1)

-- the next entry's key is above those that were read before it
pub may_push : (ms : List (Member Json)) (e : Entry) (left whole : List Entry)
    → ms ++ members_of_data (members_view (e ∷ left)) ≡ members_of_data (members_view whole)
    → IsStrictlySortedBy string_cmp (keys_of whole)
    → are_ordered (keys.keys_of ms ++ string_bytes e.0 ∷ []) ≡ true
may_push ms e left whole h order =
    let front = keys.keys_of ms in
    let rest = keys.keys_of (members_of_data (members_view left)) in
    let split = append_assoc front (string_bytes e.0 ∷ []) rest ∙ sym (map-append (λ m. m.key) ms (members_of_data (members_view (e ∷ left)))) ∙ ap keys.keys_of h in
    ordered_front (front ++ string_bytes e.0 ∷ []) rest (ap are_ordered split ∙ ordered_entries whole order)

pub less_from : (o : Ordering) → is_lt o ≡ true → o ≡ Less
less_from Less h = refl
less_from Equal h = cc
less_from Greater h = cc

pub below_through : (k l : List ℕ) (ks : List (List ℕ)) → slice_cmp nat_cmp k l ≡ Less → AllByRecursion (λ m. slice_cmp nat_cmp l m ≡ Less) ks → AllByRecursion (λ m. slice_cmp nat_cmp k m ≡ Less) ks
below_through k l [] less all = tt
below_through k l (m ∷ ks) less all = (nat_list_cmp_total.trans k l m less all.0, below_through k l ks less all.1)

-- the first of keys in order is below each other
pub below_rest : (k : List ℕ) (ks : List (List ℕ)) → are_ordered (k ∷ ks) ≡ true → AllByRecursion (λ m. slice_cmp nat_cmp k m ≡ Less) ks
below_rest k [] h = tt
below_rest k (l ∷ ks) h =
    let p = and_parts (is_lt (slice_cmp nat_cmp k l)) _ h in
    let less = less_from (slice_cmp nat_cmp k l) p.0 in
    (less, below_through k l ks less (below_rest l ks p.1))

pub ordered_rest : (k : List ℕ) (ks : List (List ℕ)) → are_ordered (k ∷ ks) ≡ true → are_ordered ks ≡ true
ordered_rest k [] h = refl
ordered_rest k (l ∷ ks) h = (and_parts (is_lt (slice_cmp nat_cmp k l)) _ h).1

last_of : (k : List ℕ) (ms : List (Member Json)) (m : Member Json) → AllByRecursion (λ l. slice_cmp nat_cmp k l ≡ Less) (keys.keys_of (ms ++ m ∷ [])) → slice_cmp nat_cmp k m.key ≡ Less
last_of k [] m h = h.0
last_of k (x ∷ ms) m h = last_of k ms m h.1

-- a key that is above the others goes last
pub put_above : (ms : List (Member Json)) (m : Member Json) → are_ordered (keys.keys_of (ms ++ m ∷ [])) ≡ true → put m.key (data_of m.value) (members_data ms) ≡ members_data (ms ++ m ∷ [])
put_above [] m h = refl
put_above (x ∷ ms) m h =
    let below = last_of x.key ms m (below_rest x.key (keys.keys_of (ms ++ m ∷ [])) h) in
    let above : slice_cmp nat_cmp m.key x.key ≡ Greater = nat_list_cmp_total.antisymm m.key x.key ∙ ap ordering_reverse below in
    rw above (ap (member x.key (data_of x.value)) (put_above ms m (ordered_rest x.key (keys.keys_of (ms ++ m ∷ [])) h)))

-- one more member of an object goes in last
pub put_next : (ms : List (Member Json)) (i : ℕ) (m : Member Json) → take (i + 1) ms ≡ take i ms ++ m ∷ [] → are_ordered (keys.keys_of ms) ≡ true
    → put m.key (data_of m.value) (members_data (take i ms)) ≡ members_data (take (i + 1) ms)
put_next ms i m more order =
    let split = sym (map-append (λ x. x.key) (take (i + 1) ms) (drop (i + 1) ms)) ∙ ap keys.keys_of (take-append-drop (i + 1) ms) in
    let front = ordered_front (keys.keys_of (take (i + 1) ms)) (keys.keys_of (drop (i + 1) ms)) (ap are_ordered split ∙ order) in
    put_above (take i ms) m (ap (λ l. are_ordered (keys.keys_of l)) (sym more) ∙ front) ∙ ap members_data (sym more)

-- one item more at the end of what was made, and one less of what is left
pub pushed_on : {X : Type 0} (made new left whole : List X) (x : X) → new ≡ made ++ x ∷ [] → made ++ x ∷ left ≡ whole → new ++ left ≡ whole
pushed_on made new left whole x pushed h = ap (λ l. l ++ left) pushed ∙ append_assoc made (x ∷ []) left ∙ h

-- the same of a list's front, of whose items something is made one by one
pub mapped_on : {X Y : Type 0} (f : X → Y) (xs : List X) (i : ℕ) (x : X) (made new : List Y) → take (i + 1) xs ≡ take i xs ++ x ∷ [] → made ≡ map f (take i xs) → new ≡ made ++ f x ∷ [] → new ≡ map f (take (i + 1) xs)
mapped_on f xs i x made new more so_far pushed = pushed ∙ ap (λ ys. ys ++ f x ∷ []) so_far ∙ sym (map-append f (take i xs) (x ∷ [])) ∙ ap (map f) (sym more)
