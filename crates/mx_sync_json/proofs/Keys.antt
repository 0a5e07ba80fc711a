-- Members under their keys: one that is set, and those that go into an object in their order.
use Rattle.std.proofs.Common.{◌≡◌, ℕ, List, [], ◌∷◌, ◌++◌, true, Ordering, Less, Equal, Greater, refl, sym, ap, ◌∙◌, append_assoc}
use Rattle.std.proofs.lemmas.List.{map-append}
use Rattle.std.proofs.lemmas.Map.Text.{is_eq-slice_cmp}
use Rattle.std.proofs.lemmas.Slice.Eq.{bytes_eq-Decides}
use Rattle.std.specs.BTreeMap.{insert_entry}
use Rattle.std.specs.Cmp.Lexicographic.{slice_cmp}
use Rattle.std.specs.List.Sorted.{IsStrictlySortedBy}
use Rattle.std.specs.Map.{keys_of}
use Rattle.std.specs.Ordering.{is_eq, match_ordering, nat_cmp}
use Rattle.mx_json.specs.Keys as keys
use Rattle.mx_json.specs.Keys.{are_ordered, set_before, with_member}
use Rattle.mx_json.specs.declared.members.Member.{Member}
use Rattle.mx_json.specs.declared.value.Json.{Json}
use Rattle.mx_json.proofs.Order.{ordered_front}
use Rattle.mx_event.specs.Forms.{member}
use Rattle.mx_sync_json.specs.Keyed.{member_in, members_in}

abbrev Entries : Type 0
Entries = List (List ℕ × Json)

same_key : (k l : List ℕ) → slice_cmp nat_cmp k l ≡ Equal → k ≡ l
same_key k l h = (bytes_eq-Decides k l).0 (sym (is_eq-slice_cmp k l) ∙ ap is_eq h)

one_place : (k : List ℕ) (v : Json) (e : List ℕ × Json) (es : Entries) (o : Ordering) → slice_cmp nat_cmp k e.0 ≡ o
    → members_in (insert_entry (slice_cmp nat_cmp) es k v) ≡ with_member k v (members_in es)
    → members_in (match_ordering o ((k, v) ∷ e ∷ es) ((e.0, v) ∷ es) (e ∷ insert_entry (slice_cmp nat_cmp) es k v))
    ≡ set_before o k v (member_in e) (members_in es) (with_member k v (members_in es))
one_place k v e es Less is later = refl
one_place k v e es Equal is later = ap (λ l. member l v ∷ members_in es) (sym (same_key k e.0 is))
one_place k v e es Greater is later = ap (λ ms. member_in e ∷ ms) later

-- a value that is set under its key
pub set_in : (k : List ℕ) (v : Json) (es : Entries) → members_in (insert_entry (slice_cmp nat_cmp) es k v) ≡ with_member k v (members_in es)
set_in k v [] = refl
set_in k v (e ∷ es) = one_place k v e es (slice_cmp nat_cmp k e.0) refl (set_in k v es)

ordered_keys : (es : Entries) → IsStrictlySortedBy (slice_cmp nat_cmp) (keys_of es) → are_ordered (keys.keys_of (members_in es)) ≡ true
unfolding IsStrictlySortedBy
ordered_keys [] h = refl
ordered_keys (e ∷ []) h = refl
ordered_keys (e ∷ f ∷ es) h = rw h.0.0 (ordered_keys (f ∷ es) h.1)

-- the next entry's key is above those that were put before it
pub may_push : (ms : List (Member Json)) (e : List ℕ × Json) (left whole : Entries) → ms ++ members_in (e ∷ left) ≡ members_in whole
    → IsStrictlySortedBy (slice_cmp nat_cmp) (keys_of whole) → are_ordered (keys.keys_of ms ++ e.0 ∷ []) ≡ true
may_push ms e left whole h order =
    let front = keys.keys_of ms in
    let rest = keys.keys_of (members_in left) in
    let split = append_assoc front (e.0 ∷ []) rest ∙ sym (map-append (λ m. m.key) ms (members_in (e ∷ left))) ∙ ap keys.keys_of h in
    ordered_front (front ++ e.0 ∷ []) rest (ap are_ordered split ∙ ordered_keys whole order)
