-- What is found last under each type of a user's data is what none of the same type follow.
use Rattle.std.proofs.Common.{◌≡◌, ℕ, ◌<◌, Bool, true, false, cond, ◌&&◌, ◌||◌, List, [], ◌∷◌, map, filter, Option, Some, None, String, option_map, Less, refl, sym, ap, ap₂, subst, ◌∙◌, arith}
use Rattle.std.proofs.lemmas.Bool.{and_from}
use Rattle.std.proofs.lemmas.List.Sorted.{IsPermutation-refl, IsPermutation-trans}
use Rattle.std.proofs.lemmas.Map.Keys.{sorted_head, sorted_tail}
use Rattle.std.proofs.lemmas.Slice.Eq.{bytes_eq-Decides}
use Rattle.std.specs.Global.{Vec}
use Rattle.std.specs.List.{AllByRecursion, list_any}
use Rattle.std.specs.List.Sorted.{IsNonDecreasingBy, IsPermutation, IsStrictlySortedBy}
use Rattle.std.specs.Map.{keys_of, lookup}
use Rattle.std.specs.Option.{is_some, option_or, option_to_list}
use Rattle.std.specs.Str.{bytes_eq}
use Rattle.std.specs.String.{string_bytes, string_cmp}
use Rattle.std.specs.declared.alloc.Global.{Global}
use Rattle.mx_ids.specs.declared.room_id.RoomId.{RoomId}
use Rattle.mx_window.specs.Lasts.{current, last_of}
use Rattle.mx_window.specs.Windows.{Ascends, stand_from}
use Rattle.mx_window.proofs.Each.{AllByRecursion-both, AllByRecursion-every, AllByRecursion-filter, AllByRecursion-passed, AllByRecursion-weaker, list_any-none, list_any-same}
use Rattle.mx_window.proofs.Intervals.{Ascends-filter, Ascends-lower}
use Rattle.mx_window.proofs.Lasts.{AllByRecursion-current, is_some-last_of, option_or-none}
use Rattle.mx_account.specs.Entries.{is_data_of, is_of, kind_of, position_of}
use Rattle.mx_account.specs.declared.entry.Entry.{Entry}
use Rattle.mx_account.specs.declared.entry.Entry.TheVariants as entry
use Rattle.mx_snapshot.specs.Accounts.{same_type, standing_data}
use Rattle.mx_snapshot.specs.LastVersions.{key_tops}
use Rattle.mx_snapshot.specs.Lists.{always, itself, listed}
use Rattle.mx_snapshot.specs.Looks.{looked}
use Rattle.mx_snapshot.proofs.Found.{Found, all_found, last_among, last_mapped, last_same, looked_is, placed_ascends, rising}
use Rattle.mx_snapshot.proofs.Grouped.{AreApart, grouped, same_sorted}
use Rattle.mx_snapshot.proofs.Standing.{first_apart, is_key, key_same, of_keys, own_found, some_entry}

module _ {E : Type 0} where
  -- of the current items the one that has a key is the last that has it
  pub one_current : (same : E → E → Bool) (has : E → Bool) → ((e f : E) → has e ≡ true → same e f ≡ has f) → (es : List E)
      → filter has (current same es) ≡ option_to_list (last_of has es)
  one_current same has key [] = refl
  one_current same has key (e ∷ es) =
      by_tests (list_any (same e) es) (has e) (last_of has es) refl (λ h. list_any-same (same e) has (λ f. key e f h) es ∙ is_some-last_of has es) (one_current same has key es) where
        by_tests : (later b : Bool) (o : Option E) → has e ≡ b → (b ≡ true → later ≡ is_some o) → filter has (current same es) ≡ option_to_list o
            → filter has (cond later (current same es) (e ∷ current same es)) ≡ option_to_list (option_or o (cond b (Some e) None))
        by_tests true true (Some f) is found rest = rest
        by_tests true true None is found rest = let bad : true ≡ false = found refl in absurd cc
        by_tests true false o is found rest = rest ∙ ap option_to_list (sym (option_or-none o))
        by_tests false true (Some f) is found rest = let bad : false ≡ true = found refl in absurd cc
        by_tests false true None is found rest = ap₂ (λ b l. cond b (e ∷ l) l) is rest
        by_tests false false o is found rest = ap (λ b. cond b (e ∷ filter has (current same es)) (filter has (current same es))) is ∙ rest ∙ ap option_to_list (sym (option_or-none o))

  pub ascends_current : (at : E → ℕ) (same : E → E → Bool) (low : ℕ) (es : List E) → Ascends at low es → Ascends at low (current same es)
  ascends_current at same low [] up = tt
  ascends_current at same low (e ∷ es) up = by_later (list_any (same e) es) (ascends_current at same (at e) es up.1) where
    by_later : (b : Bool) → Ascends at (at e) (current same es) → Ascends at low (cond b (current same es) (e ∷ current same es))
    by_later true rest = let above : low < at e = up.0 in Ascends-lower at (at e) low (current same es) rest (omega (arith, above))
    by_later false rest = (up.0, rest)

  -- an item of a list passes no test that none of the list passes
  all_any : (es : List E) → AllByRecursion (λ (x : E). (p : E → Bool) → p x ≡ true → list_any p es ≡ true) es
  all_any [] = tt
  all_any (e ∷ es) = (
    λ p is. ap (λ b. b || list_any p es) is,
    AllByRecursion-weaker (λ (x : E). (p : E → Bool) → p x ≡ true → list_any p es ≡ true) (λ (x : E). (p : E → Bool) → p x ≡ true → list_any p (e ∷ es) ≡ true)
        (λ x some p is. ap (λ b. p e || b) (some p is) ∙ or_yes (p e)) es (all_any es),
  ) where
    or_yes : (b : Bool) → (b || true) ≡ true
    or_yes true = refl
    or_yes false = refl

  all_pass : (test : E → Bool) (es : List E) → AllByRecursion (λ (x : E). test x ≡ true) es → filter test es ≡ es
  all_pass test [] all = refl
  all_pass test (e ∷ es) all = ap₂ (λ b l. cond b (e ∷ l) l) all.0 (all_pass test es all.1)

  listed_map : (at : E → ℕ) (o : Option E) → map at (option_to_list o) ≡ option_to_list (option_map at o)
  listed_map at None = refl
  listed_map at (Some e) = refl

  not_empty : (at : E → ℕ) (test : E → Bool) (xs : List E) → list_any test xs ≡ true → map at (filter test xs) ≡ [] → ⊥
  not_empty at test [] any is = let bad : false ≡ true = any in absurd cc
  not_empty at test (x ∷ xs) any is = by_test (test x) (not_empty at test xs) any is where
    by_test : (b : Bool) → (list_any test xs ≡ true → map at (filter test xs) ≡ [] → ⊥) → (b || list_any test xs) ≡ true → map at (cond b (x ∷ filter test xs) (filter test xs)) ≡ [] → ⊥
    by_test true rest any is = absurd cc
    by_test false rest any is = rest any is

-- ---- the data of one type

abbrev has : List ℕ → Entry → Bool
has kind e = bytes_eq (kind_of e) kind

has_same : (kind : List ℕ) (e f : Entry) → has kind e ≡ true → same_type e f ≡ has kind f
has_same kind e f is = ap (bytes_eq (kind_of f)) ((bytes_eq-Decides (kind_of e) kind).0 is)

data_is : (user : List ℕ) (room : Option RoomId) (kind : List ℕ) (e : Entry) → is_data_of user room kind e ≡ (is_of user room e && has kind e)
data_is user room kind (entry.Data own_user own_room own_kind content at) = refl
data_is user room kind (entry.Filter own_user id filter at) = refl

abbrev type_test : String Global × Vec ℕ → Entry → Bool
type_test t e = has (string_bytes t.0) e

-- an entry has one type
types_apart : (types : List (String Global × Vec ℕ)) → IsStrictlySortedBy string_cmp (keys_of types) → AreApart (λ (e : Entry). true) type_test types
types_apart [] order = tt
types_apart (t ∷ types) order = (
  λ e is. list_any-none (λ u. type_test u e) types
      (AllByRecursion-weaker (λ (u : String Global × Vec ℕ). string_cmp t.0 u.0 ≡ Less) (λ (u : String Global × Vec ℕ). type_test u e ≡ false)
      (λ u less. ap (λ l. bytes_eq l (string_bytes u.0)) ((bytes_eq-Decides (kind_of e) (string_bytes t.0)).0 is) ∙ first_apart t.0 u.0 less) types
      (of_keys (λ s. string_cmp t.0 s ≡ Less) types (sorted_head string_cmp t.0 (keys_of types) order))),
  types_apart types (sorted_tail string_cmp t.0 (keys_of types) order),
)

-- ---- the data of a user and a room

module _ (es : List Entry) (user : List ℕ) (room : Option RoomId) (placed : stand_from position_of 1 es ≡ true) (types : List (String Global × Vec ℕ))
    (each : (kind : List ℕ) → listed (lookup (is_key kind) types) ≡ map position_of (filter (is_data_of user room kind) es)) where
  abbrev standing : List Entry
  standing = standing_data user room es

  -- what stands under a type is found as its last position
  type_stands : (kind : List ℕ) → map position_of (filter (has kind) standing) ≡ option_to_list (last_of always (map position_of (filter (is_data_of user room kind) es)))
  type_stands kind =
      ap (map position_of) (one_current same_type (has kind) (has_same kind) (filter (is_of user room) es))
      ∙ listed_map position_of (last_of (has kind) (filter (is_of user room) es))
      ∙ ap (λ o. option_to_list (option_map position_of o)) (last_among (has kind) (is_of user room) es ∙ last_same (λ e. is_of user room e && has kind e) (λ e. is_data_of user room kind e && true) es
      (AllByRecursion-every (λ (e : Entry). (is_of user room e && has kind e) ≡ (is_data_of user room kind e && true)) (λ e. sym (data_is user room kind e) ∙ sym (and_yes (is_data_of user room kind e))) es)
      ∙ sym (last_among (λ (e : Entry). true) (is_data_of user room kind) es))
      ∙ ap option_to_list (sym (last_mapped position_of always (filter (is_data_of user room kind) es)))
    where
      and_yes : (b : Bool) → (b && true) ≡ b
      and_yes true = refl
      and_yes false = refl

  all_types : IsStrictlySortedBy string_cmp (keys_of types) → IsPermutation (map position_of (filter (λ e. list_any (λ t. type_test t e) types) standing)) (key_tops types)
  all_types order =
      grouped (λ (e : Entry). true) type_test position_of (λ (t : String Global × Vec ℕ). option_to_list (last_of always t.1.items)) standing types (types_apart types order)
      (AllByRecursion-weaker (λ (t : String Global × Vec ℕ). lookup (is_key (string_bytes t.0)) types ≡ Some t.1)
      (λ (t : String Global × Vec ℕ). IsPermutation (map position_of (filter (type_test t) standing)) (option_to_list (last_of always t.1.items)))
      (λ t own. subst (λ l. IsPermutation l (option_to_list (last_of always t.1.items)))
      (sym (type_stands (string_bytes t.0) ∙ ap (λ l. option_to_list (last_of always l)) (sym (each (string_bytes t.0)) ∙ ap listed own)))
      (IsPermutation-refl (option_to_list (last_of always t.1.items))))
      types (own_found types order))

  -- an entry of the list that is of the user and the room is under one of the types
  is_under : (e : Entry) → (is_of user room e ≡ true) × ((p : Entry → Bool) → p e ≡ true → list_any p es ≡ true) → list_any (λ t. type_test t e) types ≡ true
  is_under e h = by_type (lookup (is_key (kind_of e)) types) refl
    where
      passes : is_data_of user room (kind_of e) e ≡ true
      passes = data_is user room (kind_of e) e ∙ and_from (is_of user room e) (has (kind_of e) e) h.0 ((bytes_eq-Decides (kind_of e) (kind_of e)).1 refl)

      by_type : (o : Option (Vec ℕ)) → lookup (is_key (kind_of e)) types ≡ o → list_any (λ t. type_test t e) types ≡ true
      by_type None missing = absurd (not_empty position_of (is_data_of user room (kind_of e)) es (h.1 (is_data_of user room (kind_of e)) passes) (sym (each (kind_of e)) ∙ ap listed missing))
      by_type (Some v) own = some_entry (is_key (kind_of e)) (λ t. type_test t e) types v own (λ s hit. key_same (kind_of e) s hit)

  all_under : AllByRecursion (λ (e : Entry). list_any (λ t. type_test t e) types ≡ true) standing
  all_under =
      AllByRecursion-current (λ (e : Entry). list_any (λ t. type_test t e) types ≡ true) same_type (filter (is_of user room) es)
      (AllByRecursion-weaker (λ (e : Entry). (is_of user room e ≡ true) × ((p : Entry → Bool) → p e ≡ true → list_any p es ≡ true)) (λ (e : Entry). list_any (λ t. type_test t e) types ≡ true) is_under (filter (is_of user room) es)
      (AllByRecursion-both (λ (e : Entry). is_of user room e ≡ true) (λ (e : Entry). (p : Entry → Bool) → p e ≡ true → list_any p es ≡ true) (filter (is_of user room) es)
      (AllByRecursion-passed (is_of user room) es)
      (AllByRecursion-filter (λ (e : Entry). (p : Entry → Bool) → p e ≡ true → list_any p es ≡ true) (is_of user room) es (all_any es))))

  pub data_stands : (ps : List ℕ) → IsStrictlySortedBy string_cmp (keys_of types) → IsPermutation (key_tops types) ps → IsNonDecreasingBy itself ps → looked es ps ≡ standing_data user room es
  data_stands ps order moved rises = ap (looked es) (sym same) ∙ looked_is position_of es standing found
    where
      up : Ascends position_of 0 standing
      up = ascends_current position_of same_type 0 (filter (is_of user room) es) (Ascends-filter position_of 0 (is_of user room) es (placed_ascends position_of es placed))

      found : AllByRecursion (Found position_of es) standing
      found = AllByRecursion-current (Found position_of es) same_type (filter (is_of user room) es) (AllByRecursion-filter (Found position_of es) (is_of user room) es (all_found position_of es placed))

      same : map position_of standing ≡ ps
      same =
          same_sorted (map position_of standing) ps (rising position_of 0 standing up) rises
          (IsPermutation-trans _ _ _ (subst (λ l. IsPermutation (map position_of l) (key_tops types)) (all_pass (λ e. list_any (λ t. type_test t e) types) standing all_under) (all_types order)) moved)

-- where there are no types there are no data
pub none_stands : (es : List Entry) (user : List ℕ) (room : Option RoomId) → stand_from position_of 1 es ≡ true → ((kind : List ℕ) → [] ≡ map position_of (filter (is_data_of user room kind) es)) → [] ≡ standing_data user room es
unfolding IsStrictlySortedBy
none_stands es user room placed each = data_stands es user room placed [] each [] tt (IsPermutation-refl []) (λ i j d order within. absurd (omega (arith, within)))
