-- The entries of maps of levels: their values, and the value at their keys.
use Rattle.std.proofs.Common.{◌≡◌, ℕ, ℤ, Bool, true, false, ◌||◌, List, [], ◌∷◌, ◌++◌, Option, Some, None, option_and_then, refl, sym, ap, ap₂, subst, ◌∙◌, Less, nat_cmp, is_eq}
use Rattle.std.proofs.lemmas.Bool.{cond-true, cond-false}
use Rattle.std.proofs.lemmas.List.Folds.{list_any-append, list_all-map}
use Rattle.std.proofs.lemmas.Map.Text.{is_eq-slice_cmp}
use Rattle.std.proofs.lemmas.Slice.Eq.{bytes_eq-Decides}
use Rattle.std.specs.Cmp.Lexicographic.{slice_cmp}
use Rattle.std.specs.List.{AllByRecursion, list_all, list_any}
use Rattle.std.specs.Str.{bytes_eq}
use Rattle.mx_ids.specs.User.{is_user_id_text}
use Rattle.mx_json.specs.Fields.{int_of}
use Rattle.mx_json.specs.Keys.{are_ordered, keys_of, value_at}
use Rattle.mx_json.proofs.Order.{below_rest, ordered_rest}
use Rattle.mx_json.specs.declared.members.Member.{Member}
use Rattle.mx_json.specs.declared.value.Json.{Json}
use Rattle.mx_auth.specs.Entries.{Test, any_new, any_old, int_in, members_in}

-- ---- the value at a member's key is the member's

later : (m : Member Json) (whole : List (Member Json)) (ms : List (Member Json)) → AllByRecursion (λ k. slice_cmp nat_cmp m.key k ≡ Less) (keys_of ms)
    → AllByRecursion (λ (x : Member Json). value_at x.key whole ≡ Some x.value) ms → AllByRecursion (λ (x : Member Json). value_at x.key (m ∷ whole) ≡ Some x.value) ms
later m whole [] below all = tt
later m whole (x ∷ ms) below all =
    let apart : bytes_eq m.key x.key ≡ false = sym (is_eq-slice_cmp m.key x.key) ∙ ap is_eq below.0 in
    (cond-false _ _ _ apart ∙ all.0, later m whole ms below.1 all.1)

own_values : (ms : List (Member Json)) → are_ordered (keys_of ms) ≡ true → AllByRecursion (λ (m : Member Json). value_at m.key ms ≡ Some m.value) ms
own_values [] h = tt
own_values (m ∷ ms) h =
    (cond-true _ _ _ ((bytes_eq-Decides m.key m.key).1 refl), later m ms ms (below_rest m.key (keys_of ms) h) (own_values ms (ordered_rest m.key (keys_of ms) h)))

-- ---- tests of entries

int_in-value_at : (key : List ℕ) (object : Option Json) → int_in key object ≡ option_and_then int_of (value_at key (members_in object))
int_in-value_at key None = refl
int_in-value_at key (Some j) = refl

-- a test of each member with its value, and of each key with the value there
over_keys : (test : List ℕ → Option ℤ → Bool) (object : Option Json) (ms : List (Member Json)) → AllByRecursion (λ (m : Member Json). value_at m.key (members_in object) ≡ Some m.value) ms
    → list_any (λ (m : Member Json). test m.key (int_of m.value)) ms ≡ list_any (λ key. test key (int_in key object)) (keys_of ms)
over_keys test object [] all = refl
over_keys test object (m ∷ ms) all =
    let at : int_of m.value ≡ int_in m.key object = sym (int_in-value_at m.key object ∙ ap (option_and_then int_of) all.0) in
    ap₂ (λ z b. test m.key z || b) at (over_keys test object ms all.1)

own_entries : (test : List ℕ → Option ℤ → Bool) (object : Option Json) (ms : List (Member Json)) → ms ≡ members_in object → are_ordered (keys_of ms) ≡ true
    → list_any (λ (m : Member Json). test m.key (int_of m.value)) ms ≡ list_any (λ key. test key (int_in key object)) (keys_of (members_in object))
own_entries test object ms is order =
    let own : AllByRecursion (λ (m : Member Json). value_at m.key (members_in object) ≡ Some m.value) ms = subst (λ xs. AllByRecursion (λ (m : Member Json). value_at m.key xs ≡ Some m.value) ms) is (own_values ms order) in
    over_keys test object ms own ∙ ap (λ xs. list_any (λ key. test key (int_in key object)) (keys_of xs)) is

-- under some key of either map the entries pass
abbrev pub over_both : Test → Option Json → Option Json → Bool
over_both test old new = list_any (λ key. test key (int_in key old) (int_in key new)) (keys_of (members_in old) ++ keys_of (members_in new))

module _ (test : Test) (old new : Option Json) (xs : List (Member Json)) (is : xs ≡ members_in old) (order : are_ordered (keys_of xs) ≡ true) where
  abbrev at_key : List ℕ → Bool
  at_key key = test key (int_in key old) (int_in key new)

  old_keys : any_old test new xs ≡ list_any at_key (keys_of (members_in old))
  old_keys = own_entries (λ key z. test key z (int_in key new)) old xs is order

  both_keys : (b d : Bool) → b ≡ any_old test new xs → d ≡ list_any at_key (keys_of (members_in new)) → (b || d) ≡ over_both test old new
  both_keys b d e f = ap₂ (λ x y. x || y) (e ∙ old_keys) f ∙ sym (list_any-append at_key (keys_of (members_in old)) (keys_of (members_in new)))

  -- an entry of the old map passes
  pub entries_first : (b : Bool) → b ≡ any_old test new xs → b ≡ true → b ≡ over_both test old new
  entries_first b e hit = hit ∙ ap (λ x. x || list_any at_key (keys_of (members_in new))) (sym hit) ∙ both_keys b (list_any at_key (keys_of (members_in new))) e refl

  -- none of the old map passes, and one of the new map may
  pub entries_then : (ys : List (Member Json)) → ys ≡ members_in new → are_ordered (keys_of ys) ≡ true → (b d : Bool) → b ≡ any_old test new xs → b ≡ false → d ≡ any_new test old ys → d ≡ over_both test old new
  entries_then ys js order' b d e miss f =
      ap (λ x. x || d) (sym miss) ∙ both_keys b d e (f ∙ own_entries (λ key z. test key (int_in key old) z) new ys js order')

-- the test of the keys of users' levels
pub user_keys : (ms : List (Member Json)) → list_all (λ (m : Member Json). is_user_id_text m.key) ms ≡ list_all is_user_id_text (keys_of ms)
user_keys ms = sym (list_all-map is_user_id_text (λ (m : Member Json). m.key) ms)
