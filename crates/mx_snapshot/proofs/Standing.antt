-- What a walk over the keys of a room finds is its state.
use Rattle.std.proofs.Common.{◌≡◌, ℕ, ◌<◌, Bool, true, false, cond, ◌&&◌, ◌||◌, ◌==◌, nat_le, nat_lt, List, [], ◌∷◌, map, filter, Option, Some, None, String, is_some, is_eq, option_map, nat_cmp, Less, refl, sym, ap, ap₂, subst, ◌∙◌, arith}
use Rattle.std.proofs.lemmas.Bool.{and_from, and_parts, eq-eqb, ne_eqb}
use Rattle.std.proofs.lemmas.List.Sorted.{IsPermutation-refl, IsPermutation-trans}
use Rattle.std.proofs.lemmas.Map.Keys.{sorted_head, sorted_tail}
use Rattle.std.proofs.lemmas.Map.Text.{is_eq-slice_cmp}
use Rattle.std.proofs.lemmas.Option.{none-some, same_Some}
use Rattle.std.proofs.lemmas.Slice.Eq.{bytes_eq-Decides}
use Rattle.std.specs.BTreeMap as tree
use Rattle.std.specs.Cmp.Lexicographic.{slice_cmp}
use Rattle.std.specs.Global.{Vec}
use Rattle.std.specs.List.{AllByRecursion, list_any}
use Rattle.std.specs.List.Sorted.{IsNonDecreasingBy, IsPermutation, IsStrictlySortedBy}
use Rattle.std.specs.Map.{keys_of, lookup}
use Rattle.std.specs.Option.{option_or, option_to_list}
use Rattle.std.specs.Str.{bytes_eq}
use Rattle.std.specs.String.{string_bytes, string_cmp}
use Rattle.std.specs.declared.alloc.Global.{Global}
use Rattle.mx_ids.specs.declared.room_id.RoomId.{RoomId}
use Rattle.mx_window.specs.Lasts.{last_of}
use Rattle.mx_window.specs.Windows.{Ascends, between, stand_from}
use Rattle.mx_window.proofs.Each.{AllByRecursion-both, AllByRecursion-every, AllByRecursion-filter, AllByRecursion-none, AllByRecursion-passed, AllByRecursion-weaker, filter-same, filter-swap, list_any-none}
use Rattle.mx_window.proofs.Intervals.{Ascends-between, Ascends-filter}
use Rattle.mx_window.proofs.Lasts.{last_of-some, none-last_of}
use Rattle.mx_window.proofs.Sections.{Ascends-after}
use Rattle.mx_event.specs.Kinds.{has_key, is_of, is_text}
use Rattle.mx_event.specs.Lawful.{of_room, same_room}
use Rattle.mx_event.specs.Shown.{position_of}
use Rattle.mx_event.specs.State.{standing}
use Rattle.mx_event.specs.declared.event.Event.{Event}
use Rattle.mx_snapshot.specs.Events.{is_state, is_version, states, versions}
use Rattle.mx_snapshot.specs.LastVersions.{EachOrdered, key_lasts, kind_lasts, last_upto}
use Rattle.mx_snapshot.specs.Lists.{Keys, itself, key_in, listed}
use Rattle.mx_snapshot.specs.Looks.{looked}
use Rattle.mx_snapshot.specs.Standing.{is_at, stands, stands_under, standing_in}
use Rattle.mx_snapshot.proofs.Found.{Found, all_found, last_found, last_mapped, looked_is, placed_ascends, rising, twice}
use Rattle.mx_snapshot.proofs.Grouped.{AreApart, grouped, same_sorted}
use Rattle.mx_snapshot.proofs.Looked.{last_version}

pub and_no : (b : Bool) → (b && false) ≡ false
and_no true = refl
and_no false = refl

and_yes : (b : Bool) → (b && true) ≡ b
and_yes true = refl
and_yes false = refl

or_yes : (b : Bool) → (b || true) ≡ true
or_yes true = refl
or_yes false = refl

-- ---- keys that are texts

-- the test by which a look-up finds a text
abbrev pub is_key : List ℕ → String Global → Bool
is_key text s = is_eq (slice_cmp nat_cmp text (string_bytes s))

pub key_same : (text : List ℕ) (s : String Global) → is_key text s ≡ true → bytes_eq text (string_bytes s) ≡ true
key_same text s is = sym (is_eq-slice_cmp text (string_bytes s)) ∙ is

pub first_apart : (a b : String Global) → string_cmp a b ≡ Less → bytes_eq (string_bytes a) (string_bytes b) ≡ false
first_apart a b less = sym (is_eq-slice_cmp (string_bytes a) (string_bytes b)) ∙ ap is_eq less

later_apart : (a b : String Global) → string_cmp a b ≡ Less → bytes_eq (string_bytes b) (string_bytes a) ≡ false
later_apart a b less = by_test (bytes_eq (string_bytes b) (string_bytes a)) refl where
  by_test : (t : Bool) → bytes_eq (string_bytes b) (string_bytes a) ≡ t → t ≡ false
  by_test true is =
      let same : string_bytes b ≡ string_bytes a = (bytes_eq-Decides (string_bytes b) (string_bytes a)).0 is in
      let bad : true ≡ false = sym ((bytes_eq-Decides (string_bytes a) (string_bytes b)).1 (sym same)) ∙ first_apart a b less in absurd cc
  by_test false is = refl

module _ {V : Type 0} where
  pub of_keys : (P : String Global → Type 0) (es : List (String Global × V)) → AllByRecursion P (keys_of es) → AllByRecursion (λ (e : String Global × V). P e.0) es
  of_keys P [] all = tt
  of_keys P (e ∷ es) all = (all.0, of_keys P es all.1)

  -- each entry is found under its key
  pub own_found : (es : List (String Global × V)) → IsStrictlySortedBy string_cmp (keys_of es) → AllByRecursion (λ (e : String Global × V). lookup (is_key (string_bytes e.0)) es ≡ Some e.1) es
  own_found [] order = tt
  own_found (e ∷ es) order = (
    ap (λ b. cond b (Some e.1) (lookup (is_key (string_bytes e.0)) es)) (is_eq-slice_cmp (string_bytes e.0) (string_bytes e.0) ∙ (bytes_eq-Decides (string_bytes e.0) (string_bytes e.0)).1 refl),
    AllByRecursion-weaker (λ (h : String Global × V). (string_cmp e.0 h.0 ≡ Less) × (lookup (is_key (string_bytes h.0)) es ≡ Some h.1)) (λ (h : String Global × V). lookup (is_key (string_bytes h.0)) (e ∷ es) ≡ Some h.1)
        (λ h both. ap (λ b. cond b (Some e.1) (lookup (is_key (string_bytes h.0)) es)) (is_eq-slice_cmp (string_bytes h.0) (string_bytes e.0) ∙ later_apart e.0 h.0 both.0) ∙ both.1) es
        (AllByRecursion-both (λ (h : String Global × V). string_cmp e.0 h.0 ≡ Less) (λ (h : String Global × V). lookup (is_key (string_bytes h.0)) es ≡ Some h.1) es
        (of_keys (λ s. string_cmp e.0 s ≡ Less) es (sorted_head string_cmp e.0 (keys_of es) order)) (own_found es (sorted_tail string_cmp e.0 (keys_of es) order))),
  )

  -- what a look-up finds is an entry that passes
  pub some_entry : (test : String Global → Bool) (g : String Global × V → Bool) (es : List (String Global × V)) (v : V) → lookup test es ≡ Some v → ((s : String Global) → test s ≡ true → g (s, v) ≡ true) → list_any g es ≡ true
  some_entry test g [] v is here = absurd (none-some v is)
  some_entry test g (e ∷ es) v is here = by_test (test e.0) refl is (λ later. some_entry test g es v later here) where
    by_test : (b : Bool) → test e.0 ≡ b → cond b (Some e.1) (lookup test es) ≡ Some v → (lookup test es ≡ Some v → list_any g es ≡ true) → (g e || list_any g es) ≡ true
    by_test true hit is rest = ap (λ b. b || list_any g es) (subst (λ w. g (e.0, w) ≡ true) (sym (same_Some e.1 v is)) (here e.0 hit))
    by_test false miss is rest = ap (λ b. g e || b) (rest is) ∙ or_yes (g e)

-- ---- events that pass

not_empty : (test : Event → Bool) (xs : List Event) → list_any test xs ≡ true → map position_of (filter test xs) ≡ [] → ⊥
not_empty test [] any is = let bad : false ≡ true = any in absurd cc
not_empty test (x ∷ xs) any is = by_test (test x) (not_empty test xs) any is where
  by_test : (b : Bool) → (list_any test xs ≡ true → map position_of (filter test xs) ≡ [] → ⊥) → (b || list_any test xs) ≡ true → map position_of (cond b (x ∷ filter test xs) (filter test xs)) ≡ [] → ⊥
  by_test true rest any is = absurd cc
  by_test false rest any is = rest any is

-- an event of a list passes no test that none of the list passes
all_any : (es : List Event) → AllByRecursion (λ (x : Event). (p : Event → Bool) → p x ≡ true → list_any p es ≡ true) es
all_any [] = tt
all_any (e ∷ es) = (
  λ p is. ap (λ b. b || list_any p es) is,
  AllByRecursion-weaker (λ (x : Event). (p : Event → Bool) → p x ≡ true → list_any p es ≡ true) (λ (x : Event). (p : Event → Bool) → p x ≡ true → list_any p (e ∷ es) ≡ true)
      (λ x some p is. ap (λ b. p e || b) (some p is) ∙ or_yes (p e)) es (all_any es),
)

none_has : (has g : Event → Bool) (xs : List Event) → AllByRecursion (λ (x : Event). has x ≡ false) xs → filter (λ x. has x && g x) xs ≡ []
none_has has g [] none = refl
none_has has g (x ∷ xs) none = ap (λ b. cond (b && g x) (x ∷ filter (λ y. has y && g y) xs) (filter (λ y. has y && g y) xs)) none.0 ∙ none_has has g xs none.1

-- of those that have a key the last one alone stands at its position
only_last : (has : Event → Bool) (low : ℕ) (xs : List Event) → Ascends position_of low xs → filter (λ x. has x && is_at x.id.at (last_of has xs)) xs ≡ option_to_list (last_of has xs)
only_last has low [] up = refl
only_last has low (x ∷ xs) up = by_last (last_of has xs) refl (has x) (only_last has x.id.at xs up.1) where
  by_last : (o : Option Event) → last_of has xs ≡ o → (b : Bool) → filter (λ y. has y && is_at y.id.at (last_of has xs)) xs ≡ option_to_list (last_of has xs)
      → cond (b && is_at x.id.at (option_or o (cond b (Some x) None))) (x ∷ filter (λ y. has y && is_at y.id.at (option_or o (cond b (Some x) None))) xs) (filter (λ y. has y && is_at y.id.at (option_or o (cond b (Some x) None))) xs)
      ≡ option_to_list (option_or o (cond b (Some x) None))
  by_last (Some d) is b rest =
      let later : x.id.at < d.id.at = (last_of-some (λ (y : Event). x.id.at < y.id.at) has xs d (Ascends-after position_of x.id.at xs up.1) is).1 in
      ap (λ c. cond c (x ∷ filter (λ y. has y && (d.id.at == y.id.at)) xs) (filter (λ y. has y && (d.id.at == y.id.at)) xs)) (ap (λ c. b && c) (ne_eqb d.id.at x.id.at (λ same. omega (arith, later, same))) ∙ and_no b)
      ∙ subst (λ (o : Option Event). filter (λ y. has y && is_at y.id.at o) xs ≡ option_to_list o) is rest
  by_last None is true rest =
      ap₂ (λ c l. cond c (x ∷ l) l) (eq-eqb x.id.at x.id.at refl) (none_has has (λ y. x.id.at == y.id.at) xs (AllByRecursion-none has xs (none-last_of has xs is)))
  by_last None is false rest = none_has has (λ y. false) xs (AllByRecursion-none has xs (none-last_of has xs is))

has_own : (e : Event) (key : List ℕ) → e.state_key ≡ Some key → has_key e.kind key e ≡ true
has_own e key is = and_from (bytes_eq e.kind e.kind) (is_text key e.state_key) ((bytes_eq-Decides e.kind e.kind).1 refl) (ap (is_text key) is ∙ (bytes_eq-Decides key key).1 refl)

listed_map : (o : Option Event) → map position_of (option_to_list o) ≡ option_to_list (option_map position_of o)
listed_map None = refl
listed_map (Some e) = refl

-- ---- the keys of a room

abbrev key_test : List ℕ → String Global × Vec ℕ → Event → Bool
key_test kind e x = has_key kind (string_bytes e.0) x

abbrev kind_test : String Global × Keys → Event → Bool
kind_test e x = list_any (λ h. key_test (string_bytes e.0) h x) e.1.entries

-- an event has one key
other_key : (kind : List ℕ) (a b : String Global) (x : Event) → string_cmp a b ≡ Less → has_key kind (string_bytes a) x ≡ true → has_key kind (string_bytes b) x ≡ false
other_key kind a b x less has = by_key x.state_key (and_parts (bytes_eq x.kind kind) (is_text (string_bytes a) x.state_key) has).1 where
  by_key : (o : Option (List ℕ)) → is_text (string_bytes a) o ≡ true → (bytes_eq x.kind kind && is_text (string_bytes b) o) ≡ false
  by_key None is = let bad : false ≡ true = is in absurd cc
  by_key (Some key) is =
      let same : key ≡ string_bytes a = (bytes_eq-Decides key (string_bytes a)).0 is in
      ap (λ c. bytes_eq x.kind kind && c) (ap (λ l. bytes_eq l (string_bytes b)) same ∙ first_apart a b less) ∙ and_no (bytes_eq x.kind kind)

keys_apart : (keep : Event → Bool) (kind : List ℕ) (es : List (String Global × Vec ℕ)) → IsStrictlySortedBy string_cmp (keys_of es) → AreApart keep (key_test kind) es
keys_apart keep kind [] order = tt
keys_apart keep kind (e ∷ es) order = (
  λ x has. list_any-none (λ h. key_test kind h x) es
      (AllByRecursion-weaker (λ (h : String Global × Vec ℕ). string_cmp e.0 h.0 ≡ Less) (λ (h : String Global × Vec ℕ). key_test kind h x ≡ false) (λ h less. other_key kind e.0 h.0 x less has) es
      (of_keys (λ s. string_cmp e.0 s ≡ Less) es (sorted_head string_cmp e.0 (keys_of es) order))),
  keys_apart keep kind es (sorted_tail string_cmp e.0 (keys_of es) order),
)

no_kind : (e : String Global × Keys) (x : Event) → bytes_eq x.kind (string_bytes e.0) ≡ false → kind_test e x ≡ false
no_kind e x other =
    list_any-none (λ h. key_test (string_bytes e.0) h x) e.1.entries
    (AllByRecursion-every (λ (h : String Global × Vec ℕ). key_test (string_bytes e.0) h x ≡ false) (λ h. ap (λ b. b && is_text (string_bytes h.0) x.state_key) other) e.1.entries)

-- an event has one type
other_kind : (a b : String Global × Keys) (x : Event) → string_cmp a.0 b.0 ≡ Less → kind_test a x ≡ true → kind_test b x ≡ false
other_kind a b x less has = by_kind (bytes_eq x.kind (string_bytes a.0)) refl where
  by_kind : (t : Bool) → bytes_eq x.kind (string_bytes a.0) ≡ t → kind_test b x ≡ false
  by_kind true is = no_kind b x (ap (λ l. bytes_eq l (string_bytes b.0)) ((bytes_eq-Decides x.kind (string_bytes a.0)).0 is) ∙ first_apart a.0 b.0 less)
  by_kind false is = let bad : true ≡ false = sym has ∙ no_kind a x is in absurd cc

kinds_apart : (keep : Event → Bool) (es : List (String Global × Keys)) → IsStrictlySortedBy string_cmp (keys_of es) → AreApart keep kind_test es
kinds_apart keep [] order = tt
kinds_apart keep (e ∷ es) order = (
  λ x has. list_any-none (λ h. kind_test h x) es
      (AllByRecursion-weaker (λ (h : String Global × Keys). string_cmp e.0 h.0 ≡ Less) (λ (h : String Global × Keys). kind_test h x ≡ false) (λ h less. other_kind e h x less has) es
      (of_keys (λ s. string_cmp e.0 s ≡ Less) es (sorted_head string_cmp e.0 (keys_of es) order))),
  kinds_apart keep es (sorted_tail string_cmp e.0 (keys_of es) order),
)

-- ---- the state

module _ (es : List Event) (room : RoomId) (q : ℕ) where
  abbrev window : List Event
  window = between position_of 0 q (of_room room es)

  abbrev keep : Event → Bool
  keep x = stands (of_room room es) q x

  -- an event that has a key stands where it is the last that has it
  stands_last : (kind key : List ℕ) (x : Event) → has_key kind key x ≡ true → keep x ≡ is_at x.id.at (standing kind key window)
  stands_last kind key x has = by_key x.state_key refl
    where
      kind_is : x.kind ≡ kind
      kind_is = (bytes_eq-Decides x.kind kind).0 (and_parts (bytes_eq x.kind kind) (is_text key x.state_key) has).0

      by_key : (o : Option (List ℕ)) → x.state_key ≡ o → keep x ≡ is_at x.id.at (standing kind key window)
      by_key None is =
          let bad : false ≡ true = ap (is_text key) (sym is) ∙ (and_parts (bytes_eq x.kind kind) (is_text key x.state_key) has).1 in absurd cc
      by_key (Some s) is =
          let text : s ≡ key = (bytes_eq-Decides s key).0 (ap (is_text key) (sym is) ∙ (and_parts (bytes_eq x.kind kind) (is_text key x.state_key) has).1) in
          ap (stands_under (of_room room es) q x) is ∙ ap₂ (λ k l. is_at x.id.at (standing k l window)) kind_is text

  both_same : (kind key : List ℕ) (x : Event) → (keep x && has_key kind key x) ≡ (has_key kind key x && is_at x.id.at (last_of (has_key kind key) window))
  both_same kind key x = by_has (has_key kind key x) refl where
    by_has : (b : Bool) → has_key kind key x ≡ b → (keep x && b) ≡ (b && is_at x.id.at (last_of (has_key kind key) window))
    by_has true has = and_yes (keep x) ∙ stands_last kind key x has
    by_has false has = and_no (keep x)

  module _ (placed : stand_from position_of 1 es ≡ true) where
    up : Ascends position_of 0 (of_room room es)
    up = Ascends-filter position_of 0 (λ (e : Event). same_room e.room room) es (placed_ascends position_of es placed)

    -- what stands under a key is found as its last version
    key_stands : (kind key : List ℕ) → map position_of (filter (λ x. keep x && has_key kind key x) window) ≡ last_upto q (map position_of (versions room kind key es))
    key_stands kind key =
        ap (map position_of) (filter-same (λ x. keep x && has_key kind key x) (λ x. has_key kind key x && is_at x.id.at (last_of (has_key kind key) window)) window
        (AllByRecursion-every (λ (x : Event). (keep x && has_key kind key x) ≡ (has_key kind key x && is_at x.id.at (last_of (has_key kind key) window))) (both_same kind key) window)
        ∙ only_last (has_key kind key) 0 window (Ascends-between position_of 0 0 q (of_room room es) up))
        ∙ listed_map (last_of (has_key kind key) window)
        ∙ ap (λ o. option_to_list (option_map position_of o)) (sym version) ∙ ap option_to_list (sym mapped)
      where
        mapped : last_of (λ p. nat_le p q) (map position_of (versions room kind key es)) ≡ option_map position_of (last_of (λ (e : Event). nat_le e.id.at q) (versions room kind key es))
        mapped = last_mapped position_of (λ p. nat_le p q) (versions room kind key es)

        version : last_of (λ (e : Event). nat_le e.id.at q) (versions room kind key es) ≡ last_of (has_key kind key) window
        version =
            sym (last_found position_of es (λ e. nat_le e.id.at q) (versions room kind key es) (AllByRecursion-filter (Found position_of es) (is_version room kind key) es (all_found position_of es placed)))
            ∙ last_version es room kind key q (map position_of (versions room kind key es)) (option_map position_of (last_of (λ (e : Event). nat_le e.id.at q) (versions room kind key es))) placed refl (sym mapped)

    type_found : (kind : List ℕ) (keys : List (String Global × Vec ℕ)) → IsStrictlySortedBy string_cmp (keys_of keys)
        → ((key : List ℕ) → listed (lookup (is_key key) keys) ≡ map position_of (versions room kind key es))
        → IsPermutation (map position_of (filter (λ x. keep x && list_any (λ e. key_test kind e x) keys) window)) (key_lasts q keys)
    type_found kind keys order each =
        grouped keep (key_test kind) position_of (λ (e : String Global × Vec ℕ). last_upto q e.1.items) window keys (keys_apart keep kind keys order)
        (AllByRecursion-weaker (λ (e : String Global × Vec ℕ). lookup (is_key (string_bytes e.0)) keys ≡ Some e.1)
        (λ (e : String Global × Vec ℕ). IsPermutation (map position_of (filter (λ x. keep x && key_test kind e x) window)) (last_upto q e.1.items))
        (λ e own. subst (λ l. IsPermutation l (last_upto q e.1.items)) (sym (key_stands kind (string_bytes e.0) ∙ ap (last_upto q) (sym (each (string_bytes e.0)) ∙ ap listed own))) (IsPermutation-refl (last_upto q e.1.items)))
        keys (own_found keys order))

    -- ---- of one type

    module _ (kind : List ℕ) (keys : List (String Global × Vec ℕ)) (each : (key : List ℕ) → listed (lookup (is_key key) keys) ≡ map position_of (versions room kind key es)) where
      -- a state event of the room and the type is under one of the keys
      under_key : (x : Event) (key : List ℕ) → x.state_key ≡ Some key → bytes_eq x.kind kind ≡ true → list_any (is_version room kind key) es ≡ true → list_any (λ e. key_test kind e x) keys ≡ true
      under_key x key is of_kind there = by_key (lookup (is_key key) keys) refl
        where
          by_key : (o : Option (Vec ℕ)) → lookup (is_key key) keys ≡ o → list_any (λ e. key_test kind e x) keys ≡ true
          by_key None missing = absurd (not_empty (is_version room kind key) es there (sym (each key) ∙ ap listed missing))
          by_key (Some v) own =
              some_entry (is_key key) (λ h. key_test kind h x) keys v own
              (λ t same. and_from (bytes_eq x.kind kind) (is_text (string_bytes t) x.state_key) of_kind (ap (is_text (string_bytes t)) is ∙ key_same key t same))

      no_key : (x : Event) → bytes_eq x.kind kind ≡ false → list_any (λ e. key_test kind e x) keys ≡ false
      no_key x other =
          list_any-none (λ e. key_test kind e x) keys
          (AllByRecursion-every (λ (e : String Global × Vec ℕ). key_test kind e x ≡ false) (λ e. ap (λ b. b && is_text (string_bytes e.0) x.state_key) other) keys)

      one_typed : (x : Event) → (same_room x.room room ≡ true) × ((p : Event → Bool) → p x ≡ true → list_any p es ≡ true) → (o : Option (List ℕ)) → x.state_key ≡ o → (b : Bool) → bytes_eq x.kind kind ≡ b
          → ((is_some x.state_key && keep x) && is_of kind x) ≡ (keep x && list_any (λ e. key_test kind e x) keys)
      one_typed x h None none b is =
          ap (λ (o : Option (List ℕ)). (is_some o && keep x) && is_of kind x) none
          ∙ sym (ap (λ (o : Option (List ℕ)). stands_under (of_room room es) q x o && list_any (λ e. key_test kind e x) keys) none)
      one_typed x h (Some key) some true is =
          let there : list_any (is_version room kind key) es ≡ true =
          h.1 (is_version room kind key) (and_from (same_room x.room room) (has_key kind key x) h.0
          (and_from (bytes_eq x.kind kind) (is_text key x.state_key) is (ap (is_text key) some ∙ (bytes_eq-Decides key key).1 refl))) in
          ap (λ (o : Option (List ℕ)). (is_some o && keep x) && is_of kind x) some
          ∙ ap (λ b. keep x && b) (is ∙ sym (under_key x key some is there))
      one_typed x h (Some key) some false is =
          ap (λ (o : Option (List ℕ)). (is_some o && keep x) && is_of kind x) some
          ∙ ap (λ b. keep x && b) (is ∙ sym (no_key x is))

      -- what stands and is of the type is under one of the keys
      typed : AllByRecursion (λ (x : Event). ((is_some x.state_key && keep x) && is_of kind x) ≡ (keep x && list_any (λ e. key_test kind e x) keys)) window
      typed =
          AllByRecursion-weaker (λ (x : Event). (same_room x.room room ≡ true) × ((p : Event → Bool) → p x ≡ true → list_any p es ≡ true))
          (λ (x : Event). ((is_some x.state_key && keep x) && is_of kind x) ≡ (keep x && list_any (λ e. key_test kind e x) keys))
          (λ x h. one_typed x h x.state_key refl (bytes_eq x.kind kind) refl) window
          (AllByRecursion-filter (λ (x : Event). (same_room x.room room ≡ true) × ((p : Event → Bool) → p x ≡ true → list_any p es ≡ true)) (λ (x : Event). nat_lt 0 x.id.at && nat_le x.id.at q) (of_room room es)
          (AllByRecursion-both (λ (x : Event). same_room x.room room ≡ true) (λ (x : Event). (p : Event → Bool) → p x ≡ true → list_any p es ≡ true) (of_room room es)
          (AllByRecursion-passed (λ (x : Event). same_room x.room room) es)
          (AllByRecursion-filter (λ (x : Event). (p : Event → Bool) → p x ≡ true → list_any p es ≡ true) (λ (x : Event). same_room x.room room) es (all_any es))))

      same_type : filter (is_of kind) (standing_in room 0 q es) ≡ filter (λ x. keep x && list_any (λ e. key_test kind e x) keys) window
      same_type =
          ap (filter (is_of kind))
          (ap (λ l. filter keep (between position_of 0 q l)) (sym (twice (λ (x : Event). is_some x.state_key) (λ (x : Event). same_room x.room room) es))
          ∙ ap (filter keep) (filter-swap (λ (x : Event). nat_lt 0 x.id.at && nat_le x.id.at q) (λ (x : Event). is_some x.state_key) (of_room room es))
          ∙ twice keep (λ (x : Event). is_some x.state_key) window)
          ∙ twice (is_of kind) (λ (x : Event). is_some x.state_key && keep x) window
          ∙ filter-same (λ x. (is_some x.state_key && keep x) && is_of kind x) (λ x. keep x && list_any (λ e. key_test kind e x) keys) window typed

      pub type_stands : (ps : List ℕ) → IsStrictlySortedBy string_cmp (keys_of keys) → IsPermutation (key_lasts q keys) ps → IsNonDecreasingBy itself ps
          → looked es ps ≡ filter (is_of kind) (standing_in room 0 q es)
      type_stands ps order moved rises = ap (looked es) (sym same) ∙ looked_is position_of es (filter (is_of kind) (standing_in room 0 q es)) found
        where
          rising_state : Ascends position_of 0 (filter (is_of kind) (standing_in room 0 q es))
          rising_state =
              Ascends-filter position_of 0 (is_of kind) (standing_in room 0 q es)
              (Ascends-filter position_of 0 keep (between position_of 0 q (states room es))
              (Ascends-filter position_of 0 (λ (x : Event). nat_lt 0 x.id.at && nat_le x.id.at q) (states room es) (Ascends-filter position_of 0 (is_state room) es (placed_ascends position_of es placed))))

          found : AllByRecursion (Found position_of es) (filter (is_of kind) (standing_in room 0 q es))
          found =
              AllByRecursion-filter (Found position_of es) (is_of kind) (standing_in room 0 q es)
              (AllByRecursion-filter (Found position_of es) keep (between position_of 0 q (states room es))
              (AllByRecursion-filter (Found position_of es) (λ (x : Event). nat_lt 0 x.id.at && nat_le x.id.at q) (states room es) (AllByRecursion-filter (Found position_of es) (is_state room) es (all_found position_of es placed))))

          same : map position_of (filter (is_of kind) (standing_in room 0 q es)) ≡ ps
          same =
              same_sorted (map position_of (filter (is_of kind) (standing_in room 0 q es))) ps (rising position_of 0 (filter (is_of kind) (standing_in room 0 q es)) rising_state) rises
              (IsPermutation-trans _ _ _ (subst (λ l. IsPermutation (map position_of l) (key_lasts q keys)) (sym same_type) (type_found kind keys order each)) moved)

    module _ (kinds : List (String Global × Keys)) (each : (kind key : List ℕ) → key_in (lookup (is_key kind) kinds) key ≡ map position_of (versions room kind key es)) where
      all_lasts : IsStrictlySortedBy string_cmp (keys_of kinds) → EachOrdered kinds
          → IsPermutation (map position_of (filter (λ x. keep x && list_any (λ e. kind_test e x) kinds) window)) (kind_lasts q kinds)
      all_lasts order orders =
          grouped keep kind_test position_of (λ (e : String Global × Keys). key_lasts q e.1.entries) window kinds (kinds_apart keep kinds order)
          (AllByRecursion-weaker (λ (e : String Global × Keys). tree.IsOrdered string_cmp e.1 × (lookup (is_key (string_bytes e.0)) kinds ≡ Some e.1))
          (λ (e : String Global × Keys). IsPermutation (map position_of (filter (λ x. keep x && kind_test e x) window)) (key_lasts q e.1.entries))
          (λ e h. type_found (string_bytes e.0) e.1.entries h.0 (λ key. ap (λ o. key_in o key) (sym h.1) ∙ each (string_bytes e.0) key))
          kinds (AllByRecursion-both (λ (e : String Global × Keys). tree.IsOrdered string_cmp e.1) (λ (e : String Global × Keys). lookup (is_key (string_bytes e.0)) kinds ≡ Some e.1) kinds orders (own_found kinds order)))

      -- a state event of the room is under one of the keys
      is_under : (x : Event) (key : List ℕ) → x.state_key ≡ Some key → list_any (is_version room x.kind key) es ≡ true → list_any (λ e. kind_test e x) kinds ≡ true
      is_under x key is there = by_kind (lookup (is_key x.kind) kinds) refl
        where
          by_key : (s : String Global) (keys : Keys) → is_key x.kind s ≡ true → lookup (is_key x.kind) kinds ≡ Some keys → (o : Option (Vec ℕ)) → lookup (is_key key) keys.entries ≡ o → kind_test (s, keys) x ≡ true
          by_key s keys hit found None missing =
              absurd (not_empty (is_version room x.kind key) es there (sym (each x.kind key) ∙ ap (λ o. key_in o key) found ∙ ap listed missing))
          by_key s keys hit found (Some v) own =
              some_entry (is_key key) (λ h. key_test (string_bytes s) h x) keys.entries v own
              (λ t same. and_from (bytes_eq x.kind (string_bytes s)) (is_text (string_bytes t) x.state_key) (key_same x.kind s hit) (ap (is_text (string_bytes t)) is ∙ key_same key t same))

          by_kind : (o : Option Keys) → lookup (is_key x.kind) kinds ≡ o → list_any (λ e. kind_test e x) kinds ≡ true
          by_kind None missing = absurd (not_empty (is_version room x.kind key) es there (sym (each x.kind key) ∙ ap (λ o. key_in o key) missing))
          by_kind (Some keys) found =
              some_entry (is_key x.kind) (λ e. kind_test e x) kinds keys found (λ s hit. by_key s keys hit found (lookup (is_key key) keys.entries) refl)

      all_under : AllByRecursion (λ (x : Event). keep x ≡ true → (is_some x.state_key ≡ true) × (list_any (λ e. kind_test e x) kinds ≡ true)) window
      all_under =
          AllByRecursion-weaker (λ (x : Event). (same_room x.room room ≡ true) × ((p : Event → Bool) → p x ≡ true → list_any p es ≡ true))
          (λ (x : Event). keep x ≡ true → (is_some x.state_key ≡ true) × (list_any (λ e. kind_test e x) kinds ≡ true)) one window
          (AllByRecursion-filter (λ (x : Event). (same_room x.room room ≡ true) × ((p : Event → Bool) → p x ≡ true → list_any p es ≡ true)) (λ (x : Event). nat_lt 0 x.id.at && nat_le x.id.at q) (of_room room es)
          (AllByRecursion-both (λ (x : Event). same_room x.room room ≡ true) (λ (x : Event). (p : Event → Bool) → p x ≡ true → list_any p es ≡ true) (of_room room es)
          (AllByRecursion-passed (λ (x : Event). same_room x.room room) es)
          (AllByRecursion-filter (λ (x : Event). (p : Event → Bool) → p x ≡ true → list_any p es ≡ true) (λ (x : Event). same_room x.room room) es (all_any es))))
        where
          one : (x : Event) → (same_room x.room room ≡ true) × ((p : Event → Bool) → p x ≡ true → list_any p es ≡ true) → keep x ≡ true → (is_some x.state_key ≡ true) × (list_any (λ e. kind_test e x) kinds ≡ true)
          one x h standing = by_key x.state_key refl where
            by_key : (o : Option (List ℕ)) → x.state_key ≡ o → (is_some o ≡ true) × (list_any (λ e. kind_test e x) kinds ≡ true)
            by_key None is = let bad : false ≡ true = ap (stands_under (of_room room es) q x) (sym is) ∙ standing in absurd cc
            by_key (Some key) is = (refl, is_under x key is (h.1 (is_version room x.kind key) (and_from (same_room x.room room) (has_key x.kind key x) h.0 (has_own x key is))))

      same_state : standing_in room 0 q es ≡ filter (λ x. keep x && list_any (λ e. kind_test e x) kinds) window
      same_state =
          ap (λ l. filter keep (between position_of 0 q l)) (sym (twice (λ (x : Event). is_some x.state_key) (λ (x : Event). same_room x.room room) es))
          ∙ ap (filter keep) (filter-swap (λ (x : Event). nat_lt 0 x.id.at && nat_le x.id.at q) (λ (x : Event). is_some x.state_key) (of_room room es))
          ∙ twice keep (λ (x : Event). is_some x.state_key) window
          ∙ filter-same (λ x. is_some x.state_key && keep x) (λ x. keep x && list_any (λ e. kind_test e x) kinds) window
          (AllByRecursion-weaker (λ (x : Event). keep x ≡ true → (is_some x.state_key ≡ true) × (list_any (λ e. kind_test e x) kinds ≡ true))
          (λ (x : Event). (is_some x.state_key && keep x) ≡ (keep x && list_any (λ e. kind_test e x) kinds)) (λ x. one x (keep x) refl) window all_under)
        where
          one : (x : Event) (b : Bool) → keep x ≡ b → (keep x ≡ true → (is_some x.state_key ≡ true) × (list_any (λ e. kind_test e x) kinds ≡ true)) → (is_some x.state_key && b) ≡ (b && list_any (λ e. kind_test e x) kinds)
          one x true is h = and_yes (is_some x.state_key) ∙ (h is).0 ∙ sym (h is).1
          one x false is h = and_no (is_some x.state_key)

      pub walk_stands : (ps : List ℕ) → IsStrictlySortedBy string_cmp (keys_of kinds) → EachOrdered kinds → IsPermutation (kind_lasts q kinds) ps → IsNonDecreasingBy itself ps → looked es ps ≡ standing_in room 0 q es
      walk_stands ps order orders moved rises = ap (looked es) (sym same) ∙ looked_is position_of es (standing_in room 0 q es) found
        where
          rising_state : Ascends position_of 0 (standing_in room 0 q es)
          rising_state =
              Ascends-filter position_of 0 keep (between position_of 0 q (states room es))
              (Ascends-filter position_of 0 (λ (x : Event). nat_lt 0 x.id.at && nat_le x.id.at q) (states room es) (Ascends-filter position_of 0 (is_state room) es (placed_ascends position_of es placed)))

          found : AllByRecursion (Found position_of es) (standing_in room 0 q es)
          found =
              AllByRecursion-filter (Found position_of es) keep (between position_of 0 q (states room es))
              (AllByRecursion-filter (Found position_of es) (λ (x : Event). nat_lt 0 x.id.at && nat_le x.id.at q) (states room es) (AllByRecursion-filter (Found position_of es) (is_state room) es (all_found position_of es placed)))

          same : map position_of (standing_in room 0 q es) ≡ ps
          same =
              same_sorted (map position_of (standing_in room 0 q es)) ps (rising position_of 0 (standing_in room 0 q es) rising_state) rises
              (IsPermutation-trans _ _ _ (subst (λ l. IsPermutation (map position_of l) (kind_lasts q kinds)) (sym same_state) (all_lasts order orders)) moved)

-- a room without versions has no state
pub none_stands : (es : List Event) (room : RoomId) (q : ℕ) → stand_from position_of 1 es ≡ true → ((kind key : List ℕ) → [] ≡ map position_of (versions room kind key es)) → [] ≡ standing_in room 0 q es
unfolding IsStrictlySortedBy
none_stands es room q placed each = walk_stands es room q placed [] each [] tt tt (IsPermutation-refl []) (λ i j d order within. absurd (omega (arith, within)))

-- a room without events of a type has none of it in its state
pub none_typed : (es : List Event) (room : RoomId) (q : ℕ) → stand_from position_of 1 es ≡ true → (kind : List ℕ) → ((key : List ℕ) → [] ≡ map position_of (versions room kind key es)) → [] ≡ filter (is_of kind) (standing_in room 0 q es)
unfolding IsStrictlySortedBy
none_typed es room q placed kind each = type_stands es room q placed kind [] each [] tt (IsPermutation-refl []) (λ i j d order within. absurd (omega (arith, within)))
