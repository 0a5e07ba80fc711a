-- Members of which one is left out.
use Rattle.std.proofs.Common.{◌≡◌, ℕ, List, [], ◌∷◌, ◌++◌, not, true, false, Bool, Ordering, Less, Equal, Greater, refl, sym, ap, ◌∙◌, append_assoc}
use Rattle.std.proofs.lemmas.Cmp.{nat_list_cmp_total}
use Rattle.std.proofs.lemmas.List.{map-append}
use Rattle.std.proofs.lemmas.Map.Text.{is_eq-slice_cmp}
use Rattle.std.specs.List.{AllByRecursion}
use Rattle.std.specs.Ordering.{is_eq, nat_cmp, ordering_reverse}
use Rattle.std.specs.Cmp.Lexicographic.{slice_cmp}
use Rattle.std.specs.Str.{bytes_eq}
use Rattle.mx_json.specs.Keys.{are_ordered, keys_of, with_member}
use Rattle.mx_json.specs.declared.members.Member.{Member}
use Rattle.mx_json.specs.declared.value.Json.{Json}
use Rattle.mx_json.proofs.Order.{below_rest, below_through, ordered_front, ordered_rest}
use Rattle.mx_account.specs.Tags.{without_member}

abbrev IsAbove : List ℕ → List (Member Json) → Type 0
IsAbove k ms = AllByRecursion (λ l. slice_cmp nat_cmp k l ≡ Less) (keys_of ms)

-- how a key stands to another, told from the other side
turned : (k l : List ℕ) (o : Ordering) → slice_cmp nat_cmp k l ≡ o → bytes_eq l k ≡ is_eq (ordering_reverse o)
turned k l o is = sym (is_eq-slice_cmp l k) ∙ ap is_eq (nat_list_cmp_total.antisymm l k ∙ ap ordering_reverse is)

module _ (key : List ℕ) where
  -- members above the key all stay
  stays_above : (ms : List (Member Json)) → IsAbove key ms → without_member key ms ≡ ms
  stays_above [] all = refl
  stays_above (m ∷ ms) all = rw (turned key m.key Less all.0) (ap (λ l. m ∷ l) (stays_above ms all.1))

  -- a key below the others goes first
  set_first : (v : Json) (ms : List (Member Json)) → IsAbove key ms → with_member key v ms ≡ record { key = key; value = v } ∷ ms
  set_first v [] all = refl
  set_first v (m ∷ ms) all = rw all.0 refl

  above_equal : (k : List ℕ) (ms : List (Member Json)) → slice_cmp nat_cmp key k ≡ Equal → IsAbove k ms → IsAbove key ms
  above_equal k [] same all = tt
  above_equal k (m ∷ ms) same all = (nat_list_cmp_total.congr key k m.key same ∙ all.0, above_equal k ms same all.1)

  -- what is set at a key that was left out is set as well where it wasn't
  pub set_anew : (v : Json) (ms : List (Member Json)) → are_ordered (keys_of ms) ≡ true → with_member key v (without_member key ms) ≡ with_member key v ms
  set_anew v [] h = refl
  set_anew v (m ∷ ms) h = by_order (slice_cmp nat_cmp key m.key) refl (set_anew v ms (ordered_rest m.key (keys_of ms) h))
    where
      by_order : (o : Ordering) → slice_cmp nat_cmp key m.key ≡ o → with_member key v (without_member key ms) ≡ with_member key v ms
          → with_member key v (without_member key (m ∷ ms)) ≡ with_member key v (m ∷ ms)
      by_order Less is later =
          let all = below_through key m.key (keys_of ms) is (below_rest m.key (keys_of ms) h) in
          ap (with_member key v) (stays_above (m ∷ ms) (is, all))
      by_order Equal is later =
          let all = above_equal m.key ms is (below_rest m.key (keys_of ms) h) in
          rw (turned key m.key Equal is) (rw is (ap (with_member key v) (stays_above ms all) ∙ set_first v ms all))
      by_order Greater is later = rw (turned key m.key Greater is) (rw is (ap (λ l. m ∷ l) later))

  keeps_above : (k : List ℕ) (ms : List (Member Json)) → IsAbove k ms → IsAbove k (without_member key ms)
  keeps_above k [] all = tt
  keeps_above k (m ∷ ms) all = by_test (bytes_eq m.key key) refl (keeps_above k ms all.1)
    where
      by_test : (b : Bool) → bytes_eq m.key key ≡ b → IsAbove k (without_member key ms) → IsAbove k (without_member key (m ∷ ms))
      by_test true is later = rw is later
      by_test false is later = rw is (all.0, later)

  ordered_above : (k : List ℕ) (ms : List (Member Json)) → IsAbove k ms → are_ordered (keys_of ms) ≡ true → are_ordered (k ∷ keys_of ms) ≡ true
  ordered_above k [] all h = refl
  ordered_above k (m ∷ ms) all h = rw all.0 h

  others_ordered : (ms : List (Member Json)) → are_ordered (keys_of ms) ≡ true → are_ordered (keys_of (without_member key ms)) ≡ true
  others_ordered [] h = refl
  others_ordered (m ∷ ms) h = by_test (bytes_eq m.key key) refl (others_ordered ms (ordered_rest m.key (keys_of ms) h))
    where
      by_test : (b : Bool) → bytes_eq m.key key ≡ b → are_ordered (keys_of (without_member key ms)) ≡ true → are_ordered (keys_of (without_member key (m ∷ ms))) ≡ true
      by_test true is later = rw is later
      by_test false is later = rw is (ordered_above m.key (without_member key ms) (keeps_above m.key ms (below_rest m.key (keys_of ms) h)) later)

  goes_behind : (made ms left : List (Member Json)) (m : Member Json) → are_ordered (keys_of ms) ≡ true → made ++ m ∷ left ≡ without_member key ms → are_ordered (keys_of made ++ m.key ∷ []) ≡ true
  goes_behind made ms left m h is =
      let split = append_assoc (keys_of made) (m.key ∷ []) (keys_of left) ∙ sym (map-append (λ x. x.key) made (m ∷ left)) ∙ ap keys_of is in
      ordered_front (keys_of made ++ m.key ∷ []) (keys_of left) (ap are_ordered split ∙ others_ordered ms h)

  -- the next member that stays goes behind those before it
  pub may_push : (made ms rest left : List (Member Json)) (m : Member Json) → are_ordered (keys_of ms) ≡ true → made ++ without_member key rest ≡ without_member key ms → rest ≡ m ∷ left → not (bytes_eq m.key key) ≡ true
      → are_ordered (keys_of made ++ m.key ∷ []) ≡ true
  may_push made ms rest left m h is next other =
      goes_behind made ms (without_member key left) m h (ap (λ l. made ++ l) (sym (ap (without_member key) next ∙ rw other refl)) ∙ is)

-- a value set at a key among the members that have others
pub set_among : (key text : List ℕ) (v : Json) (whole made old : List (Member Json)) → text ≡ key → old ≡ without_member text whole → are_ordered (keys_of whole) ≡ true → made ≡ with_member key v old → made ≡ with_member key v whole
set_among key text v whole made old same left h is = is ∙ ap (with_member key v) (left ∙ ap (λ k. without_member k whole) same) ∙ set_anew key v whole h
