-- The events that stand under some keys, put by position, are those of the state that have one of the keys.
use Rattle.std.proofs.Common.{◌≡◌, ℕ, ◌<◌, ◌≤◌, Bool, true, false, cond, nat_lt, nat_le, ◌==◌, ◌&&◌, ◌||◌, List, [], ◌∷◌, ◌++◌, map, filter, fold, Option, Some, None, is_some, nat_cmp, Bor, Ordering, Less, Equal, Greater, refl, sym, ap, ap₂, subst, ◌∙◌, arith, append-nil, append_assoc}
use mathlib.Core.Logic.{◌⊎◌, inl, inr}
use Rattle.std.proofs.lemmas.Bool.{and_parts, eq-eqb, eqb-true, le-ltb, lt-ltb, ne_eqb}
use Rattle.std.proofs.lemmas.List.Folds.{list_any-append}
use Rattle.std.proofs.lemmas.Option.{none-some, same_Some}
use Rattle.std.proofs.lemmas.Slice.Eq.{bytes_eq-Decides}
use Rattle.std.specs.BTreeMap.{insert_entry}
use Rattle.std.specs.List.{AllByRecursion}
use Rattle.std.specs.Option.{option_or}
use Rattle.std.specs.Ordering.{match_ordering}
use Rattle.std.specs.Str.{bytes_eq}
use Rattle.mx_ids.specs.declared.room_id.RoomId.{RoomId}
use Rattle.mx_window.specs.Lasts.{last_of}
use Rattle.mx_window.specs.Windows.{Ascends, between, stand_from}
use Rattle.mx_window.proofs.Each.{AllByRecursion-none, filter-same, filter-swap, filter-weaker}
use Rattle.mx_window.proofs.Intervals.{Ascends-between, Ascends-filter, Ascends-stand_from}
use Rattle.mx_window.proofs.Lasts.{none-last_of}
use Rattle.mx_event.specs.Kinds.{has_key, is_text}
use Rattle.mx_event.specs.Lawful.{of_room, same_room}
use Rattle.mx_event.specs.Shown.{position_of}
use Rattle.mx_event.specs.State.{standing}
use Rattle.mx_event.specs.declared.event.Event.{Event}
use Rattle.mx_folding.specs.Parts.{state_list}
use Rattle.mx_lazy.specs.State.Standing.{is_at, stands, stands_under}
use Rattle.mx_lazy.proofs.State.Standing.{state_is}
use Rattle.mx_view.specs.Rooms.{Sieve, room_of}
use Rattle.mx_parts.specs.Under.{all_standing, event_in, found_now, is_under, put_found, put_standing}
use Rattle.mx_parts.specs.declared.under_keys.StateKey.{StateKey}

-- an event stands in a list
abbrev In : List Event → Event → Type 0
In [] e = ⊥
In (x ∷ xs) e = (x ≡ e) ⊎ In xs e

abbrev pub keyed : List Event → List (ℕ × Event)
keyed es = map (λ (e : Event). (e.id.at, e)) es

all_in : (P : Event → Type 0) (xs : List Event) → ((x : Event) → In xs x → P x) → AllByRecursion P xs
all_in P [] each = tt
all_in P (x ∷ xs) each = (each x (inl refl), all_in P xs (λ y there. each y (inr there)))

or_no : (b : Bool) → (b || false) ≡ b
or_no true = refl
or_no false = refl

or_yes : (b : Bool) → (b || true) ≡ true
or_yes true = refl
or_yes false = refl

-- ---- positions

above : (low : ℕ) (xs : List Event) (e : Event) → Ascends position_of low xs → In xs e → low < e.id.at
above low [] e up there = absurd there
above low (x ∷ xs) e up (inl is) = subst (λ (d : Event). low < d.id.at) is up.0
above low (x ∷ xs) e up (inr there) =
    let later : x.id.at < e.id.at = above x.id.at xs e up.1 there in
    let here : low < x.id.at = up.0 in
    omega (arith, here, later)

unique : (low : ℕ) (xs : List Event) (x e : Event) → Ascends position_of low xs → In xs x → In xs e → x.id.at ≡ e.id.at → x ≡ e
unique low [] x e up a b is = absurd a
unique low (y ∷ ys) x e up (inl a) (inl b) is = sym a ∙ b
unique low (y ∷ ys) x e up (inl a) (inr b) is =
    let later : y.id.at < e.id.at = above y.id.at ys e up.1 b in
    let here : y.id.at ≡ x.id.at = ap (λ (d : Event). d.id.at) a in
    absurd (omega (arith, later, here, is))
unique low (y ∷ ys) x e up (inr a) (inl b) is =
    let later : y.id.at < x.id.at = above y.id.at ys x up.1 a in
    let here : y.id.at ≡ e.id.at = ap (λ (d : Event). d.id.at) b in
    absurd (omega (arith, later, here, is))
unique low (y ∷ ys) x e up (inr a) (inr b) is = unique y.id.at ys x e up.1 a b is

-- ---- an event that is put

-- the second test passes beside what the first does the event e alone
abbrev Adds : (Event → Bool) → (Event → Bool) → Event → List Event → Type 0
Adds p q e xs = AllByRecursion (λ (x : Event). q x ≡ (p x || (e.id.at == x.id.at))) xs

rest_same : (p q : Event → Bool) (e : Event) (low : ℕ) (xs : List Event) → Ascends position_of low xs → e.id.at ≤ low → Adds p q e xs → filter q xs ≡ filter p xs
rest_same p q e low [] up le adds = refl
rest_same p q e low (x ∷ xs) up le adds =
    let here : low < x.id.at = up.0 in
    let other : (e.id.at == x.id.at) ≡ false = ne_eqb e.id.at x.id.at (λ is. omega (arith, here, le, is)) in
    ap₂ (λ b l. cond b (x ∷ l) l) (adds.0 ∙ ap (λ b. p x || b) other ∙ or_no (p x)) (rest_same p q e x.id.at xs up.1 (omega (arith, here, le)) adds.1)

-- a key below all others goes first
put_first : (e : Event) (low : ℕ) (xs : List Event) → Ascends position_of low xs → e.id.at ≤ low → insert_entry nat_cmp (keyed xs) e.id.at e ≡ (e.id.at, e) ∷ keyed xs
put_first e low [] up le = refl
put_first e low (x ∷ xs) up le = let here : low < x.id.at = up.0 in rw (lt-ltb e.id.at x.id.at (omega (arith, here, le))) refl

put_here : (p q : Event → Bool) (x : Event) (xs : List Event) → Ascends position_of x.id.at xs → Adds p q x (x ∷ xs)
    → insert_entry nat_cmp (keyed (filter p (x ∷ xs))) x.id.at x ≡ keyed (filter q (x ∷ xs))
put_here p q x xs up adds = by_own (p x) ∙ sym (ap keyed (ap₂ (λ b l. cond b (x ∷ l) l) passes rest))
  where
    passes : q x ≡ true
    passes = adds.0 ∙ ap (λ b. p x || b) (eq-eqb x.id.at x.id.at refl) ∙ or_yes (p x)

    rest : filter q xs ≡ filter p xs
    rest = rest_same p q x x.id.at xs up (omega arith) adds.1

    by_own : (b : Bool) → insert_entry nat_cmp (keyed (cond b (x ∷ filter p xs) (filter p xs))) x.id.at x ≡ (x.id.at, x) ∷ keyed (filter p xs)
    by_own true = rw (le-ltb x.id.at x.id.at (omega arith), eq-eqb x.id.at x.id.at refl) refl
    by_own false = put_first x x.id.at (filter p xs) (Ascends-filter position_of x.id.at p xs up) (omega arith)

put_in : (p q : Event → Bool) (e : Event) (low : ℕ) (xs : List Event) → Ascends position_of low xs → In xs e → Adds p q e xs
    → insert_entry nat_cmp (keyed (filter p xs)) e.id.at e ≡ keyed (filter q xs)
put_in p q e low [] up there adds = absurd there
put_in p q e low (x ∷ xs) up (inl is) adds =
    subst (λ (d : Event). Adds p q d (x ∷ xs) → insert_entry nat_cmp (keyed (filter p (x ∷ xs))) d.id.at d ≡ keyed (filter q (x ∷ xs))) is (put_here p q x xs up.1) adds
put_in p q e low (x ∷ xs) up (inr there) adds = by_own (p x) (put_in p q e x.id.at xs up.1 there adds.1) ∙ ap (λ b. keyed (cond b (x ∷ filter q xs) (filter q xs))) (sym same)
  where
    later : x.id.at < e.id.at
    later = above x.id.at xs e up.1 there

    other : (e.id.at == x.id.at) ≡ false
    other = let l : x.id.at < e.id.at = later in ne_eqb e.id.at x.id.at (λ is. omega (arith, l, is))

    same : q x ≡ p x
    same = adds.0 ∙ ap (λ b. p x || b) other ∙ or_no (p x)

    by_own : (b : Bool) → insert_entry nat_cmp (keyed (filter p xs)) e.id.at e ≡ keyed (filter q xs)
        → insert_entry nat_cmp (keyed (cond b (x ∷ filter p xs) (filter p xs))) e.id.at e ≡ keyed (cond b (x ∷ filter q xs) (filter q xs))
    by_own true put = let l : x.id.at < e.id.at = later in rw (le-ltb e.id.at x.id.at (omega (arith, l)), other) (ap (λ m. (x.id.at, x) ∷ m) put)
    by_own false put = put

-- ---- what stands under a key

in_last : (has : Event → Bool) (xs : List Event) (e : Event) → last_of has xs ≡ Some e → In xs e × (has e ≡ true)
in_last has [] e is = absurd (none-some e is)
in_last has (x ∷ xs) e is = by_rest (in_last has xs) (last_of has xs) refl is
  where
    by_own : (b : Bool) → has x ≡ b → cond b (Some x) None ≡ Some e → In (x ∷ xs) e × (has e ≡ true)
    by_own true own here = (inl (same_Some x e here), subst (λ (d : Event). has d ≡ true) (same_Some x e here) own)
    by_own false own here = absurd (none-some e here)

    by_rest : ((d : Event) → last_of has xs ≡ Some d → In xs d × (has d ≡ true)) → (o : Option Event) → last_of has xs ≡ o
        → option_or o (cond (has x) (Some x) None) ≡ Some e → In (x ∷ xs) e × (has e ≡ true)
    by_rest later (Some d) rest here =
        let found = later d rest in
        (inr (subst (In xs) (same_Some d e here) found.0), subst (λ (y : Event). has y ≡ true) (same_Some d e here) found.1)
    by_rest later None rest here = by_own (has x) refl here

module _ (es : List Event) (q : ℕ) where
  abbrev window : List Event
  window = between position_of 0 q es

  abbrev passes : List StateKey → Event → Bool
  passes keys x = stands es q x && is_under keys x

  stands_last : (kind key : List ℕ) (x : Event) → has_key kind key x ≡ true → stands es q x ≡ is_at x.id.at (standing kind key window)
  stands_last kind key x has = by_key x.state_key refl
    where
      kind_is : x.kind ≡ kind
      kind_is = (bytes_eq-Decides x.kind kind).0 (and_parts (bytes_eq x.kind kind) (is_text key x.state_key) has).0

      by_key : (o : Option (List ℕ)) → x.state_key ≡ o → stands es q x ≡ is_at x.id.at (standing kind key window)
      by_key None is =
          let bad : false ≡ true = ap (is_text key) (sym is) ∙ (and_parts (bytes_eq x.kind kind) (is_text key x.state_key) has).1 in absurd cc
      by_key (Some s) is =
          let text : s ≡ key = (bytes_eq-Decides s key).0 (ap (is_text key) (sym is) ∙ (and_parts (bytes_eq x.kind kind) (is_text key x.state_key) has).1) in
          ap (stands_under es q x) is ∙ ap₂ (λ k l. is_at x.id.at (standing k l window)) kind_is text

  -- of the events that stand, the one that stands under a key alone has it
  one_has : (kind key : List ℕ) (e x : Event) → Ascends position_of 0 window → standing kind key window ≡ Some e → In window x
      → (stands es q x && has_key kind key x) ≡ (e.id.at == x.id.at)
  one_has kind key e x up is there = by_has (has_key kind key x) refl
    where
      own : In window e × (has_key kind key e ≡ true)
      own = in_last (has_key kind key) window e is

      by_place : (b : Bool) → (e.id.at == x.id.at) ≡ b → has_key kind key x ≡ false → false ≡ b
      by_place true same has =
          let same_event : x ≡ e = unique 0 window x e up there own.0 (sym (eqb-true e.id.at x.id.at same)) in
          let bad : true ≡ false = sym own.1 ∙ ap (has_key kind key) (sym same_event) ∙ has in absurd cc
      by_place false other has = refl

      and_no : (b : Bool) → (b && false) ≡ false
      and_no true = refl
      and_no false = refl

      and_yes : (b : Bool) → (b && true) ≡ b
      and_yes true = refl
      and_yes false = refl

      by_has : (b : Bool) → has_key kind key x ≡ b → (stands es q x && b) ≡ (e.id.at == x.id.at)
      by_has true has = and_yes (stands es q x) ∙ stands_last kind key x has ∙ ap (is_at x.id.at) is
      by_has false has = and_no (stands es q x) ∙ by_place (e.id.at == x.id.at) refl has

  split : (s a h : Bool) → (s && (a || h)) ≡ ((s && a) || (s && h))
  split true a h = refl
  split false a h = refl

  one_more : (keys : List StateKey) (k : StateKey) (x : Event) → passes (keys ++ k ∷ []) x ≡ (passes keys x || (stands es q x && has_key k.kind.now k.key.now x))
  one_more keys k x =
      ap (λ b. stands es q x && b) (list_any-append (λ (j : StateKey). has_key j.kind.now j.key.now x) keys (k ∷ [])
      ∙ ap (λ b. is_under keys x || b) (or_no (has_key k.kind.now k.key.now x)))
      ∙ split (stands es q x) (is_under keys x) (has_key k.kind.now k.key.now x)

  step : (keys : List StateKey) (k : StateKey) → Ascends position_of 0 window
      → put_standing es q (keyed (filter (passes keys) window)) k ≡ keyed (filter (passes (keys ++ k ∷ [])) window)
  step keys k up = by_found (standing k.kind.now k.key.now window) refl
    where
      not_there : (b : Bool) → b ≡ false → (s : Bool) → (s && b) ≡ false
      not_there true is s = let bad : true ≡ false = is in absurd cc
      not_there false is true = refl
      not_there false is false = refl

      by_found : (o : Option Event) → standing k.kind.now k.key.now window ≡ o → put_found (keyed (filter (passes keys) window)) o ≡ keyed (filter (passes (keys ++ k ∷ [])) window)
      by_found None is =
          ap keyed (sym (filter-same (passes (keys ++ k ∷ [])) (passes keys) window
          (all_without window (AllByRecursion-none (has_key k.kind.now k.key.now) window (none-last_of (has_key k.kind.now k.key.now) window is)))))
        where
          all_without : (xs : List Event) → AllByRecursion (λ (x : Event). has_key k.kind.now k.key.now x ≡ false) xs → AllByRecursion (λ x. passes (keys ++ k ∷ []) x ≡ passes keys x) xs
          all_without [] none = tt
          all_without (x ∷ xs) none =
              (one_more keys k x ∙ ap (λ b. passes keys x || b) (not_there (has_key k.kind.now k.key.now x) none.0 (stands es q x)) ∙ or_no (passes keys x), all_without xs none.1)
      by_found (Some e) is =
          put_in (passes keys) (passes (keys ++ k ∷ [])) e 0 window up (in_last (has_key k.kind.now k.key.now) window e is).0
          (all_in (λ x. passes (keys ++ k ∷ []) x ≡ (passes keys x || (e.id.at == x.id.at))) window
          (λ x there. one_more keys k x ∙ ap (λ b. passes keys x || b) (one_has k.kind.now k.key.now e x up is there)))

  all_put : (before keys : List StateKey) → Ascends position_of 0 window
      → fold (put_standing es q) (keyed (filter (passes before) window)) keys ≡ keyed (filter (passes (before ++ keys)) window)
  all_put before [] up = ap (λ l. keyed (filter (passes l) window)) (sym (append-nil before))
  all_put before (k ∷ keys) up =
      ap (λ m. fold (put_standing es q) m keys) (step before k up) ∙ all_put (before ++ k ∷ []) keys up ∙ ap (λ l. keyed (filter (passes l) window)) (append_assoc before (k ∷ []) keys)

  none_passes : (xs : List Event) → filter (passes []) xs ≡ []
  none_passes [] = refl
  none_passes (x ∷ xs) = ap₂ (λ b l. cond b (x ∷ l) l) (none (stands es q x)) (none_passes xs)
    where
      none : (b : Bool) → (b && false) ≡ false
      none true = refl
      none false = refl

  events_keyed : (xs : List Event) → map event_in (keyed xs) ≡ xs
  events_keyed [] = refl
  events_keyed (x ∷ xs) = ap (λ l. x ∷ l) (events_keyed xs)

  found_pass : (keys : List StateKey) → Ascends position_of 0 window → map event_in (all_standing es q keys) ≡ filter (passes keys) window
  found_pass keys up =
      ap (λ l. map event_in (fold (put_standing es q) (keyed l) keys)) (sym (none_passes window)) ∙ ap (map event_in) (all_put [] keys up) ∙ events_keyed (filter (passes keys) window)

  twice : (p r : Event → Bool) (xs : List Event) → filter p (filter r xs) ≡ filter (λ x. r x && p x) xs
  twice p r [] = refl
  twice p r (x ∷ xs) = by_test (r x) (twice p r xs) where
    by_test : (b : Bool) → filter p (filter r xs) ≡ filter (λ d. r d && p d) xs → filter p (cond b (x ∷ filter r xs) (filter r xs)) ≡ cond (b && p x) (x ∷ filter (λ d. r d && p d) xs) (filter (λ d. r d && p d) xs)
    by_test true h = ap (λ l. cond (p x) (x ∷ l) l) h
    by_test false h = h

-- an event without a state key doesn't stand
keyless : (es : List Event) (q : ℕ) (x : Event) → stands es q x ≡ true → is_some x.state_key ≡ true
keyless es q x is = by_key x.state_key refl
  where
    by_key : (o : Option (List ℕ)) → x.state_key ≡ o → is_some o ≡ true
    by_key None none = let bad : false ≡ true = ap (stands_under es q x) (sym none) ∙ is in absurd cc
    by_key (Some key) some = refl

module _ (room : RoomId) (events : List Event) where
  abbrev list : List Event
  list = of_room room events

  pub under_is : (f : Sieve) (user : List ℕ) (q : ℕ) (keys : List StateKey) → stand_from position_of 1 events ≡ true
      → map event_in (all_standing list q keys) ≡ filter (is_under keys) (state_list (room_of f user list) list q)
  under_is f user q keys placed =
      found_pass list q keys (Ascends-between position_of 0 0 q list up)
      ∙ sym (twice list q (is_under keys) (stands list q) (window list q))
      ∙ ap (filter (is_under keys)) (sym (filter-weaker (stands list q) (λ (x : Event). is_some x.state_key) (keyless list q) (window list q))
      ∙ ap (filter (stands list q)) (filter-swap (λ (x : Event). is_some x.state_key) (λ (x : Event). nat_lt 0 x.id.at && nat_le x.id.at q) list)
      ∙ ap (λ l. filter (stands list q) (between position_of 0 q l)) (twice list q (λ (x : Event). is_some x.state_key) (λ (x : Event). same_room x.room room) events)
      ∙ state_is f user room q events placed)
    where
      up : Ascends position_of 0 list
      up = Ascends-filter position_of 0 (λ (x : Event). same_room x.room room) events (Ascends-stand_from position_of 0 1 events (omega arith) placed)

one_place : (e : ℕ × Bor Event) (es : List (ℕ × Bor Event)) (k : ℕ) (v : Bor Event) (o : Ordering)
    → map found_now (insert_entry nat_cmp es k v) ≡ insert_entry nat_cmp (map found_now es) k v.now
    → map found_now (match_ordering o ((k, v) ∷ e ∷ es) ((e.0, v) ∷ es) (e ∷ insert_entry nat_cmp es k v))
    ≡ match_ordering o ((k, v.now) ∷ map found_now (e ∷ es)) (((found_now e).0, v.now) ∷ map found_now es) (found_now e ∷ insert_entry nat_cmp (map found_now es) k v.now)
one_place e es k v Less later = refl
one_place e es k v Equal later = refl
one_place e es k v Greater later = ap (λ l. found_now e ∷ l) later

-- an event that is put, behind references
pub insert_now : (es : List (ℕ × Bor Event)) (k : ℕ) (v : Bor Event) → map found_now (insert_entry nat_cmp es k v) ≡ insert_entry nat_cmp (map found_now es) k v.now
insert_now [] k v = refl
insert_now (e ∷ es) k v = one_place e es k v (nat_cmp k e.0) (insert_now es k v)
