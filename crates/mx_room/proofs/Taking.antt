-- The events of each room once a block is taken in.
use Rattle.std.proofs.Common.{◌≡◌, ◌≢◌, ℕ, zero, suc, ◌+◌, ◌<◌, ◌==◌, ◌&&◌, Bool, true, false, cond, List, [], ◌∷◌, ◌++◌, length, drop, get_or, set, map, refl, sym, ap, ap₂, subst, ◌∙◌, arith, append_assoc, append-nil, true≢false, inl, inr}
use Rattle.std.proofs.lemmas.Bool.{cases_Bool, eq-eqb, eqb-false, eqb-true, ne_eqb}
use Rattle.std.proofs.lemmas.List.Elements.{filter-append}
use Rattle.std.specs.List.{AllByRecursion}
use Rattle.mx_core.specs.History.{items_of, placed_from}
use Rattle.mx_core.specs.declared.history.Stored.{Stored}
use Rattle.mx_ids.specs.declared.room_id.RoomId.{RoomId}
use Rattle.mx_event.specs.Lawful.{of_room, placed_event, same_room}
use Rattle.mx_event.specs.declared.event.Event.{Event}
use Rattle.mx_room.specs.declared.rooms.Room.{Room}
use Rattle.mx_room.specs.Creating.{IsNew}
use Rattle.mx_room.specs.Held.{Bare, Opens, Rises, bare, events_at, events_in}

-- ---- a store more

pub items_more : (ss : List (Stored Event)) (s : Stored Event) → items_of (ss ++ s ∷ []) ≡ items_of ss ++ s.items
items_more [] s = append-nil s.items
items_more (t ∷ ss) s = ap (λ es. t.items ++ es) (items_more ss s) ∙ sym (append_assoc t.items (items_of ss) s.items)

-- ---- a block of one room

module _ (of : RoomId) (room : RoomId) where
  -- it is kept whole where the room is its own, and else nothing of it
  of_block : (ys : List Event) → AllByRecursion (λ (e : Event). e.room ≡ of) ys → of_room room ys ≡ cond (same_room of room) ys []
  of_block [] h = none (same_room of room) where
    none : (b : Bool) → ◌≡◌ {A = List Event} [] (cond b [] [])
    none true = refl
    none false = refl
  of_block (e ∷ ys) h = ap₂ (λ (r : RoomId) (es : List Event). cond (same_room r room) (e ∷ es) es) h.0 (of_block ys h.1) ∙ inside (same_room of room) where
    inside : (b : Bool) → cond b (e ∷ cond b ys []) (cond b ys []) ≡ cond b (e ∷ ys) []
    inside true = refl
    inside false = refl

  pub of_room_more : (es ys : List Event) → AllByRecursion (λ (e : Event). e.room ≡ of) ys → of_room room (es ++ ys) ≡ cond (same_room of room) (of_room room es ++ ys) (of_room room es)
  of_room_more es ys h = filter-append (λ (e : Event). same_room e.room room) es ys ∙ (ap (λ zs. of_room room es ++ zs) (of_block ys h) ∙ inside (same_room of room)) where
    inside : (b : Bool) → of_room room es ++ cond b ys [] ≡ cond b (of_room room es ++ ys) (of_room room es)
    inside true = refl
    inside false = append-nil (of_room room es)

-- the events of a block that creates a room stand in it
pub new_room : (writer first at : ℕ) (es : List Event) → AllByRecursion (IsNew writer) es → AllByRecursion (λ (e : Event). e.room ≡ record { writer = writer; at = first }) (placed_from placed_event first at es)
new_room writer first at [] h = tt
new_room writer first at (e ∷ es) h = (ap (λ (r : RoomId). cond (r.at == 0) (record { writer = r.writer; at = first }) r) h.0.0, new_room writer first (at + 1) es h.1)

-- an event that isn't one of such a block stays in its room
pub own_room : (first at : ℕ) (e : Event) → 0 < e.room.at → (placed_event e first at).room ≡ e.room
own_room first at e some = ap (λ b. cond b (record { writer = e.room.writer; at = first }) e.room) (ne_eqb e.room.at 0 (not_none e.room.at some)) where
  not_none : (n : ℕ) → 0 < n → n ≢ 0
  not_none n l e = omega (arith, l, e)

-- ---- a room that has events already

apart : (m n o : ℕ) → m < n → (m == o) ≡ true → (n == o) ≡ false
apart m n o h e = ne_eqb n o (λ f. absurd (clash m n o h (eqb-true m o e) f)) where
  clash : (a b c : ℕ) → a < b → a ≡ c → b ≡ c → ⊥
  clash a b c l e f = omega (arith, l, e, f)

module _ (d : Room) where
  all_after : (low : ℕ) (rs : List Room) (i : ℕ) (r : Room) → i < length rs → r.at ≡ (get_or rs i d).at → AllByRecursion (λ (s : Bare). low < s.0) (map bare rs) → AllByRecursion (λ (s : Bare). low < s.0) (map bare (set rs i r))
  all_after low [] i r l is h = absurd (omega (arith, l))
  all_after low (x ∷ rs) zero r l is h = (subst (λ n. low < n) (sym is) h.0, h.1)
  all_after low (x ∷ rs) (suc i) r l is h = (h.0, all_after low rs i r (omega (arith, l)) is h.1)

  pub rises_after : (rs : List Room) (i : ℕ) (r : Room) → i < length rs → r.at ≡ (get_or rs i d).at → Rises (map bare rs) → Rises (map bare (set rs i r))
  rises_after [] i r l is h = absurd (omega (arith, l))
  rises_after (x ∷ rs) zero r l is h = (subst (λ n. AllByRecursion (λ (s : Bare). n < s.0) (map bare rs)) (sym is) h.0, h.1)
  rises_after (x ∷ rs) (suc i) r l is h = (all_after x.at rs i r (omega (arith, l)) is h.0, rises_after rs i r (omega (arith, l)) is h.1)

  pub opens_after : (rs : List Room) (i : ℕ) (r : Room) → i < length rs → (Opens (bare (get_or rs i d)) → Opens (bare r)) → AllByRecursion Opens (map bare rs) → AllByRecursion Opens (map bare (set rs i r))
  opens_after [] i r l f h = absurd (omega (arith, l))
  opens_after (x ∷ rs) zero r l f h = (f h.0, h.1)
  opens_after (x ∷ rs) (suc i) r l f h = (h.0, opens_after rs i r (omega (arith, l)) f h.1)

  at_below : (low : ℕ) (rs : List Room) (i : ℕ) → AllByRecursion (λ (s : Bare). low < s.0) (map bare rs) → i < length rs → low < (get_or rs i d).at
  at_below low [] i h l = absurd (omega (arith, l))
  at_below low (x ∷ rs) zero h l = h.0
  at_below low (x ∷ rs) (suc i) h l = at_below low rs i h.1 (omega (arith, l))

  -- each room has a position
  pub opened_at : (rs : List Room) (i : ℕ) → i < length rs → AllByRecursion Opens (map bare rs) → Opens (bare (get_or rs i d))
  opened_at [] i l h = absurd (omega (arith, l))
  opened_at (x ∷ rs) zero l h = h.0
  opened_at (x ∷ rs) (suc i) l h = opened_at rs i (omega (arith, l)) h.1

  pub events_after : (k at : ℕ) (rs : List Room) (i : ℕ) (r : Room) → Rises (map bare rs) → i < length rs → r.at ≡ at → (get_or rs i d).at ≡ at
      → events_at k (map bare (set rs i r)) ≡ cond (at == k) r.state.events (events_at k (map bare rs))
  events_after k at [] i r rises l is was = absurd (omega (arith, l))
  events_after k at (x ∷ rs) zero r rises l is was =
      ap (λ n. cond (n == k) r.state.events (events_at k (map bare rs))) is
      ∙ (twice (at == k) ∙ ap (λ n. cond (at == k) r.state.events (cond (n == k) x.state.events (events_at k (map bare rs)))) (sym was)) where
        twice : (b : Bool) → cond b r.state.events (events_at k (map bare rs)) ≡ cond b r.state.events (cond b x.state.events (events_at k (map bare rs)))
        twice true = refl
        twice false = refl
  events_after k at (x ∷ rs) (suc i) r rises l is was =
      ap (λ es. cond (x.at == k) x.state.events es) (events_after k at rs i r rises.1 (omega (arith, l)) is was)
      ∙ swapped (x.at == k) (at == k) (apart x.at at k (lower x.at (get_or rs i d).at at (at_below x.at rs i rises.0 (omega (arith, l))) was)) where
        lower : (m n o : ℕ) → m < n → n ≡ o → m < o
        lower m n o h e = omega (arith, h, e)

        swapped : (b c : Bool) → (b ≡ true → c ≡ false)
            → cond b x.state.events (cond c r.state.events (events_at k (map bare rs))) ≡ cond c r.state.events (cond b x.state.events (events_at k (map bare rs)))
        swapped true true h = absurd (true≢false (h refl))
        swapped true false h = refl
        swapped false c h = refl

-- a room's first event stays its first
pub opens_more : (at : ℕ) (es ys : List Event) → Opens (at, es) → Opens (at, es ++ ys)
opens_more at es ys h = record { placed = h.placed; first = h.first; begins = longer es ys h.first h.begins; here = h.here } where
  longer : (xs zs : List Event) (e : Event) → xs ≡ e ∷ drop 1 xs → xs ++ zs ≡ e ∷ drop 1 (xs ++ zs)
  longer [] zs e is = absurd cc
  longer (x ∷ xs) zs e is = ap (λ l. first_or e l ∷ (xs ++ zs)) is where
    first_or : Event → List Event → Event
    first_or d [] = d
    first_or d (y ∷ ys) = y

-- ---- a room more

pub rises_push : (rs : List Room) (r : Room) → AllByRecursion (λ (s : Bare). s.0 < r.at) (map bare rs) → Rises (map bare rs) → Rises (map bare (rs ++ r ∷ []))
rises_push [] r below h = (tt, tt)
rises_push (x ∷ rs) r below h = (all_push x.at rs r below.0 h.0, rises_push rs r below.1 h.1) where
  all_push : (low : ℕ) (xs : List Room) (s : Room) → low < s.at → AllByRecursion (λ (t : Bare). low < t.0) (map bare xs) → AllByRecursion (λ (t : Bare). low < t.0) (map bare (xs ++ s ∷ []))
  all_push low [] s l g = (l, tt)
  all_push low (y ∷ xs) s l g = (g.0, all_push low xs s l g.1)

pub opens_push : (rs : List Room) (r : Room) → Opens (bare r) → AllByRecursion Opens (map bare rs) → AllByRecursion Opens (map bare (rs ++ r ∷ []))
opens_push [] r o h = (o, tt)
opens_push (x ∷ rs) r o h = (h.0, opens_push rs r o h.1)

pub events_push : (k : ℕ) (rs : List Room) (r : Room) → AllByRecursion (λ (s : Bare). s.0 < r.at) (map bare rs)
    → events_at k (map bare (rs ++ r ∷ [])) ≡ cond (r.at == k) r.state.events (events_at k (map bare rs))
events_push k [] r below = refl
events_push k (x ∷ rs) r below =
    ap (λ es. cond (x.at == k) x.state.events es) (events_push k rs r below.1) ∙ swapped (x.at == k) (r.at == k) (apart x.at r.at k below.0) where
      swapped : (b c : Bool) → (b ≡ true → c ≡ false)
          → cond b x.state.events (cond c r.state.events (events_at k (map bare rs))) ≡ cond c r.state.events (cond b x.state.events (events_at k (map bare rs)))
      swapped true true h = absurd (true≢false (h refl))
      swapped true false h = refl
      swapped false c h = refl

-- ---- each room stands below a position that is above the events of all rooms

module _ (P : Event → Type 0) where
  pub all_of_room : (room : RoomId) (es : List Event) → AllByRecursion P es → AllByRecursion P (of_room room es)
  all_of_room room [] h = tt
  all_of_room room (e ∷ es) h = inside (same_room e.room room) (all_of_room room es h.1) where
    inside : (b : Bool) → AllByRecursion P (of_room room es) → AllByRecursion P (cond b (e ∷ of_room room es) (of_room room es))
    inside true rest = (h.0, rest)
    inside false rest = rest

-- nothing stands at a position below all rooms
pub none_below : (at : ℕ) (rs : List Bare) → AllByRecursion (λ (s : Bare). at < s.0) rs → events_at at rs ≡ []
none_below at [] h = refl
none_below at (r ∷ rs) h = ap (λ b. cond b r.1 (events_at at rs)) (ne_eqb r.0 at (over at r.0 h.0)) ∙ none_below at rs h.1 where
  over : (m n : ℕ) → m < n → n ≢ m
  over m n l e = omega (arith, l, e)

-- nor at one above them
pub none_above : (at : ℕ) (rs : List Bare) → AllByRecursion (λ (s : Bare). s.0 < at) rs → events_at at rs ≡ []
none_above at [] h = refl
none_above at (r ∷ rs) h = ap (λ b. cond b r.1 (events_at at rs)) (ne_eqb r.0 at (under r.0 at h.0)) ∙ none_above at rs h.1 where
  under : (m n : ℕ) → m < n → m ≢ n
  under m n l e = omega (arith, l, e)

module _ (first : ℕ) where
  abbrev Low : List Event → Type 0
  Low es = AllByRecursion (λ (e : Event). e.id.at < first) es

  low_first : (r : Bare) → Opens r → Low r.1 → r.0 < first
  low_first r h low = subst (λ n. n < first) h.here (subst Low h.begins low).0

  pub all_low : (rs : List Bare) → Rises rs → AllByRecursion Opens rs → ((at : ℕ) → Low (events_at at rs)) → AllByRecursion (λ (s : Bare). s.0 < first) rs
  all_low [] rises opens low = tt
  all_low (r ∷ rs) rises opens low = (low_first r opens.0 (subst Low here (low r.0)), all_low rs rises.1 opens.1 rest) where
    here : events_at r.0 (r ∷ rs) ≡ r.1
    here = ap (λ b. cond b r.1 (events_at r.0 rs)) (eq-eqb r.0 r.0 refl)

    at_rest : (at : ℕ) (b : Bool) → (r.0 == at) ≡ b → Low (cond b r.1 (events_at at rs)) → Low (events_at at rs)
    at_rest at true is h = subst (λ n. Low (events_at n rs)) (eqb-true r.0 at is) (subst Low (sym (none_below r.0 rs rises.0)) tt)
    at_rest at false is h = h

    rest : (at : ℕ) → Low (events_at at rs)
    rest at = at_rest at (r.0 == at) refl (low at)

-- ---- the events of each room

same_eqb : (m n : ℕ) → (m == n) ≡ (n == m)
same_eqb m n = elim (cases_Bool (m == n)) [ inl h ↦ h ∙ sym (eq-eqb n m (sym (eqb-true m n h))) | inr h ↦ h ∙ sym (ne_eqb n m (λ e. eqb-false m n h (sym e))) ]

-- a book has each room of its own writer
pub own_events : (writer at : ℕ) (rs : List Bare) → events_in writer rs (record { writer = writer; at = at }) ≡ events_at at rs
own_events writer at rs = ap (λ b. cond b (events_at at rs) []) (eq-eqb writer writer refl)

module _ (writer : ℕ) (rs rs' : List Bare) (es block old : List Event) (of : RoomId) where
  inside : (w f : Bool) (x y : List Event) → (f ≡ true → x ≡ y) → cond w (cond f (y ++ block) x) [] ≡ cond (w && f) (cond w x [] ++ block) (cond w x [])
  inside true true x y h = ap (λ l. l ++ block) (sym (h refl))
  inside true false x y h = refl
  inside false f x y h = refl

  pub same_after : of.writer ≡ writer → AllByRecursion (λ (e : Event). e.room ≡ of) block → events_at of.at rs ≡ old
      → ((k : ℕ) → events_at k rs' ≡ cond (of.at == k) (old ++ block) (events_at k rs)) → ((room : RoomId) → events_in writer rs room ≡ of_room room es)
      → (room : RoomId) → events_in writer rs' room ≡ of_room room (es ++ block)
  same_after mine all was after same room =
      let here = events_at room.at rs in
      let w : (of.writer == room.writer) ≡ (room.writer == writer) = ap (λ n. n == room.writer) mine ∙ same_eqb writer room.writer in
      let then_was : (of.at == room.at) ≡ true → here ≡ old = λ h. ap (λ n. events_at n rs) (sym (eqb-true of.at room.at h)) ∙ was in
      ap (λ l. cond (room.writer == writer) l []) (after room.at)
      ∙ (inside (room.writer == writer) (of.at == room.at) here old then_was
      ∙ (ap₂ (λ b l. cond (b && (of.at == room.at)) (l ++ block) l) (sym w) (same room) ∙ sym (of_room_more of room es block all)))
