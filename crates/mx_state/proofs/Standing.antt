-- The state events of a room that are the last of their key are its state.
use Rattle.std.proofs.Common.{◌≡◌, ℕ, ◌<◌, ◌≤◌, Bool, true, false, not, cond, nat_lt, nat_le, ◌==◌, ◌&&◌, List, [], ◌∷◌, ◌++◌, filter, Option, Some, None, is_some, option_map, refl, sym, ap, ap₂, subst, ◌∙◌, arith, append_assoc}
use Rattle.std.proofs.lemmas.Bool.{and_from, eq-eqb, lt-ltb, ltb-true, ne_eqb}
use Rattle.std.proofs.lemmas.Slice.Eq.{bytes_eq-Decides}
use Rattle.std.specs.List.{list_any, AllByRecursion}
use Rattle.std.specs.Option.{option_or}
use Rattle.std.specs.Str.{bytes_eq}
use Rattle.mx_ids.specs.declared.room_id.RoomId.{RoomId}
use Rattle.mx_window.specs.Lasts.{current, last_of}
use Rattle.mx_window.specs.Windows.{Ascends, between, stand_from}
use Rattle.mx_window.proofs.Each.{filter-same, filter-swap, list_any-same, AllByRecursion-every, AllByRecursion-weaker}
use Rattle.mx_window.proofs.Intervals.{Ascends-filter, Ascends-between, Ascends-stand_from, between-within}
use Rattle.mx_window.proofs.Lasts.{AllByRecursion-current, last_of-append, last_of-some, is_some-last_of}
use Rattle.mx_window.proofs.Sections.{Ascends-after}
use Rattle.mx_event.specs.Kinds.{has_key, is_text}
use Rattle.mx_event.specs.Lawful.{of_room, same_room}
use Rattle.mx_event.specs.Shown.{position_of}
use Rattle.mx_event.specs.declared.event.Event.{Event}
use Rattle.mx_folding.specs.Parts.{state_list}
use Rattle.mx_folding.specs.Rooms.{is_state, key_is, sets_same}
use Rattle.mx_view.specs.Rooms.{Key, Sieve, key_of, room_of, same_key}
use Rattle.mx_state.specs.Standing.{is_at, stands, stands_under, standing_in}

-- ---- filters

twice : (p q : Event → Bool) (es : List Event) → filter p (filter q es) ≡ filter (λ e. q e && p e) es
twice p q [] = refl
twice p q (e ∷ es) = by_test (q e) (twice p q es) where
  by_test : (b : Bool) → filter p (filter q es) ≡ filter (λ d. q d && p d) es → filter p (cond b (e ∷ filter q es) (filter q es)) ≡ cond (b && p e) (e ∷ filter (λ d. q d && p d) es) (filter (λ d. q d && p d) es)
  by_test true h = ap (λ l. cond (p e) (e ∷ l) l) h
  by_test false h = h

kept : (t : Event → Bool) (e : Event) (es : List Event) → t e ≡ true → filter t (e ∷ es) ≡ e ∷ filter t es
kept t e es is = ap (λ b. cond b (e ∷ filter t es) (filter t es)) is

left : (t : Event → Bool) (e : Event) (es : List Event) → t e ≡ false → filter t (e ∷ es) ≡ filter t es
left t e es is = ap (λ b. cond b (e ∷ filter t es) (filter t es)) is

never : {A : Type 0} → ◌≡◌ {A = Bool} false true → A
never h = absurd cc

not_same : (m n : ℕ) → n < m → (m == n) ≡ false
not_same m n less = ne_eqb m n (λ e. omega (arith, e, less))

filter-all : (t : Event → Bool) (es : List Event) → AllByRecursion (λ e. t e ≡ true) es → filter t es ≡ es
filter-all t [] all = refl
filter-all t (e ∷ es) all = kept t e es all.0 ∙ ap (λ l. e ∷ l) (filter-all t es all.1)

-- one item more before what stands and what is current
one_more : (q st is_st : Event → Bool) (e : Event) (fs cs : List Event) (k s h : Bool) → q e ≡ k → is_some e.state_key ≡ s → is_st e ≡ s → (s ≡ true → st e ≡ not h)
    → filter st (filter (λ d. is_some d.state_key) fs) ≡ filter q (filter is_st cs)
    → filter st (filter (λ d. is_some d.state_key) (cond k (e ∷ fs) fs)) ≡ filter q (filter is_st (cond h cs (e ∷ cs)))
one_more q st is_st e fs cs true true true is_q is_s same hides rest =
    ap (filter st) (kept (λ d. is_some d.state_key) e fs is_s) ∙ left st e (filter (λ d. is_some d.state_key) fs) (hides refl) ∙ rest
one_more q st is_st e fs cs true true false is_q is_s same hides rest =
    ap (filter st) (kept (λ d. is_some d.state_key) e fs is_s) ∙ kept st e (filter (λ d. is_some d.state_key) fs) (hides refl) ∙ ap (λ l. e ∷ l) rest
    ∙ sym (ap (filter q) (kept is_st e cs same) ∙ kept q e (filter is_st cs) is_q)
one_more q st is_st e fs cs true false true is_q is_s same hides rest = ap (filter st) (left (λ d. is_some d.state_key) e fs is_s) ∙ rest
one_more q st is_st e fs cs true false false is_q is_s same hides rest =
    ap (filter st) (left (λ d. is_some d.state_key) e fs is_s) ∙ rest ∙ sym (ap (filter q) (left is_st e cs same))
one_more q st is_st e fs cs false s true is_q is_s same hides rest = rest
one_more q st is_st e fs cs false true false is_q is_s same hides rest = rest ∙ sym (ap (filter q) (kept is_st e cs same) ∙ left q e (filter is_st cs) is_q)
one_more q st is_st e fs cs false false false is_q is_s same hides rest = rest ∙ sym (ap (filter q) (left is_st e cs same))

-- ---- the last of a key

ascends_after : (low : ℕ) (xs : List Event) (e : Event) (ys : List Event) → Ascends position_of low (xs ++ e ∷ ys) → Ascends position_of e.id.at ys
ascends_after low [] e ys up = up.1
ascends_after low (x ∷ xs) e ys up = ascends_after x.id.at xs e ys up.1

has_own : (e : Event) (key : List ℕ) → e.state_key ≡ Some key → has_key e.kind key e ≡ true
has_own e key is = and_from (bytes_eq e.kind e.kind) (is_text key e.state_key) ((bytes_eq-Decides e.kind e.kind).1 refl) (ap (is_text key) is ∙ (bytes_eq-Decides key key).1 refl)

last_hides : (has : Event → Bool) (xs : List Event) (e : Event) (ys : List Event) → has e ≡ true → Ascends position_of e.id.at ys
    → is_at e.id.at (last_of has (xs ++ e ∷ ys)) ≡ not (list_any has ys)
last_hides has xs e ys own up =
    ap (is_at e.id.at) (last_of-append has xs (e ∷ ys)) ∙ by_last (last_of has ys) refl ∙ sym (ap not (is_some-last_of has ys)) where
      by_last : (o : Option Event) → last_of has ys ≡ o → is_at e.id.at (option_or (option_or (last_of has ys) (cond (has e) (Some e) None)) (last_of has xs)) ≡ not (is_some (last_of has ys))
      by_last (Some d) is =
          let later : e.id.at < d.id.at = (last_of-some (λ (x : Event). e.id.at < x.id.at) has ys d (Ascends-after position_of e.id.at ys up) is).1 in
          ap (λ o. is_at e.id.at (option_or (option_or o (cond (has e) (Some e) None)) (last_of has xs))) is ∙ not_same d.id.at e.id.at later ∙ sym (ap (λ (o : Option Event). not (is_some o)) is)
      by_last None is =
          ap₂ (λ (o : Option Event) b. is_at e.id.at (option_or (option_or o (cond b (Some e) None)) (last_of has xs))) is own ∙ eq-eqb e.id.at e.id.at refl ∙ sym (ap (λ (o : Option Event). not (is_some o)) is)

same_has : (f : Sieve) (user : List ℕ) (es : List Event) (e : Event) (key : List ℕ) → e.state_key ≡ Some key → (d : Event) → sets_same (room_of f user es) e d ≡ has_key e.kind key d
same_has f user es e key is d = ap (λ o. key_is (λ (k : Key). key_is (same_key k) (key_of d)) (option_map (λ s. (e.kind, s)) o)) is ∙ by_key d.state_key where
  and_no : (b : Bool) → (b && false) ≡ false
  and_no true = refl
  and_no false = refl

  by_key : (o : Option (List ℕ)) → key_is (same_key (e.kind, key)) (option_map (λ s. (d.kind, s)) o) ≡ (bytes_eq d.kind e.kind && is_text key o)
  by_key None = sym (and_no (bytes_eq d.kind e.kind))
  by_key (Some other) = refl

-- ---- the state

module _ (f : Sieve) (user : List ℕ) (es : List Event) (from to : ℕ) where
  is_s : (e : Event) → is_state (room_of f user es) e ≡ is_some e.state_key
  is_s e = by_key e.state_key where
    by_key : (o : Option (List ℕ)) → is_some {T = Key} (option_map (λ s. (e.kind, s)) o) ≡ is_some o
    by_key None = refl
    by_key (Some key) = refl

  hides : (xs : List Event) (e : Event) (ys : List Event) → between position_of 0 to es ≡ xs ++ e ∷ ys → Ascends position_of 0 (between position_of 0 to es)
      → is_some e.state_key ≡ true → stands es to e ≡ not (list_any (sets_same (room_of f user es) e) ys)
  hides xs e ys split up some = by_key e.state_key refl some where
    by_key : (o : Option (List ℕ)) → e.state_key ≡ o → is_some e.state_key ≡ true → stands es to e ≡ not (list_any (sets_same (room_of f user es) e) ys)
    by_key None is some = never (sym (ap is_some is) ∙ some)
    by_key (Some key) is some =
        ap (stands_under es to e) is ∙ ap (λ l. is_at e.id.at (last_of (has_key e.kind key) l)) split
        ∙ last_hides (has_key e.kind key) xs e ys (has_own e key is) (ascends_after 0 xs e ys (subst (Ascends position_of 0) split up))
        ∙ ap not (sym (list_any-same (sets_same (room_of f user es) e) (has_key e.kind key) (same_has f user es e key is) ys))

  rest_stands : (xs ys : List Event) → between position_of 0 to es ≡ xs ++ ys → Ascends position_of 0 (between position_of 0 to es)
      → filter (stands es to) (filter (λ d. is_some d.state_key) (filter (λ (d : Event). nat_lt from d.id.at) ys))
      ≡ filter (λ (d : Event). nat_lt from d.id.at) (filter (is_state (room_of f user es)) (current (sets_same (room_of f user es)) ys))
  rest_stands xs [] split up = refl
  rest_stands xs (e ∷ ys) split up =
      one_more (λ (d : Event). nat_lt from d.id.at) (stands es to) (is_state (room_of f user es)) e (filter (λ (d : Event). nat_lt from d.id.at) ys) (current (sets_same (room_of f user es)) ys)
      (nat_lt from e.id.at) (is_some e.state_key) (list_any (sets_same (room_of f user es) e) ys) refl refl (is_s e) (hides xs e ys split up)
      (rest_stands (xs ++ e ∷ []) ys (split ∙ sym (append_assoc xs (e ∷ []) ys)) up)

  one_window : (e : Event) → ((nat_lt 0 e.id.at && nat_le e.id.at to) && nat_lt from e.id.at) ≡ (nat_lt from e.id.at && nat_le e.id.at to)
  one_window e = by_low (nat_lt from e.id.at) refl where
    and_yes : (b : Bool) → (b && true) ≡ b
    and_yes true = refl
    and_yes false = refl

    and_no : (b : Bool) → (b && false) ≡ false
    and_no true = refl
    and_no false = refl

    by_low : (b : Bool) → nat_lt from e.id.at ≡ b → ((nat_lt 0 e.id.at && nat_le e.id.at to) && b) ≡ (b && nat_le e.id.at to)
    by_low true is =
        let above : from < e.id.at = ltb-true from e.id.at is in
        and_yes (nat_lt 0 e.id.at && nat_le e.id.at to) ∙ ap (λ b. b && nat_le e.id.at to) (lt-ltb 0 e.id.at (omega (arith, above)))
    by_low false is = and_no (nat_lt 0 e.id.at && nat_le e.id.at to)

  pub difference_is : Ascends position_of 0 es
      → filter (stands es to) (between position_of from to (filter (λ d. is_some d.state_key) es)) ≡ filter (λ (e : Event). nat_lt from e.id.at) (state_list (room_of f user es) es to)
  difference_is up =
      ap (filter (stands es to)) (filter-swap (λ (e : Event). nat_lt from e.id.at && nat_le e.id.at to) (λ d. is_some d.state_key) es
      ∙ ap (filter (λ d. is_some d.state_key)) (sym (twice (λ (e : Event). nat_lt from e.id.at) (λ (e : Event). nat_lt 0 e.id.at && nat_le e.id.at to) es
      ∙ filter-same (λ (e : Event). (nat_lt 0 e.id.at && nat_le e.id.at to) && nat_lt from e.id.at) (λ (e : Event). nat_lt from e.id.at && nat_le e.id.at to) es
      (AllByRecursion-every (λ (e : Event). ((nat_lt 0 e.id.at && nat_le e.id.at to) && nat_lt from e.id.at) ≡ (nat_lt from e.id.at && nat_le e.id.at to)) one_window es))))
      ∙ rest_stands [] (between position_of 0 to es) refl (Ascends-between position_of 0 0 to es up)

-- the same for a room among the events of a stream
pub standing_is : (f : Sieve) (user : List ℕ) (room : RoomId) (from to : ℕ) (es : List Event) → stand_from position_of 1 es ≡ true
    → standing_in room from to es ≡ filter (λ (e : Event). nat_lt from e.id.at) (state_list (room_of f user (of_room room es)) (of_room room es) to)
standing_is f user room from to es placed =
    ap (λ l. filter (stands (of_room room es) to) (between position_of from to l)) (sym (twice (λ d. is_some d.state_key) (λ (e : Event). same_room e.room room) es))
    ∙ difference_is f user (of_room room es) from to (Ascends-filter position_of 0 (λ (e : Event). same_room e.room room) es (Ascends-stand_from position_of 0 1 es (omega arith) placed))

-- all of the state lies after 0
pub state_is : (f : Sieve) (user : List ℕ) (room : RoomId) (to : ℕ) (es : List Event) → stand_from position_of 1 es ≡ true
    → standing_in room 0 to es ≡ state_list (room_of f user (of_room room es)) (of_room room es) to
state_is f user room to es placed =
    let list = of_room room es in
    standing_is f user room 0 to es placed
    ∙ filter-swap (λ (e : Event). nat_lt 0 e.id.at) (is_state (room_of f user list)) (current (sets_same (room_of f user list)) (between position_of 0 to list))
    ∙ ap (filter (is_state (room_of f user list))) (filter-all (λ (e : Event). nat_lt 0 e.id.at) (current (sets_same (room_of f user list)) (between position_of 0 to list))
    (AllByRecursion-weaker (λ (e : Event). (0 < e.id.at) × (e.id.at ≤ to)) (λ (e : Event). nat_lt 0 e.id.at ≡ true) (λ e h. let low : 0 < e.id.at = h.0 in lt-ltb 0 e.id.at low) (current (sets_same (room_of f user list)) (between position_of 0 to list))
    (AllByRecursion-current (λ (e : Event). (0 < e.id.at) × (e.id.at ≤ to)) (sets_same (room_of f user list)) (between position_of 0 to list) (between-within position_of 0 to list))))
