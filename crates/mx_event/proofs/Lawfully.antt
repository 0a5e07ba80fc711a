-- Each room's list among the items up to the front is valid, where stores are lawful.
use Rattle.std.proofs.Common.{◌≡◌, ℕ, zero, suc, ◌+◌, ◌-◌, ◌<◌, ◌≤◌, ◌==◌, Bool, true, false, cond, not, ◌&&◌, ◌||◌, List, [], ◌∷◌, ◌++◌, length, is_none, nat_eq, nat_lt, nat_le, Option, Some, None, subst, append-nil, append_assoc, refl, ap, ap₂, sym, ◌∙◌, inl, inr, arith}
use Rattle.std.proofs.lemmas.Bool.{cases_lt, and_parts, and_from, eqb-true, eq-eqb, lt-ltb, le-leb, lt-leb, leb-true, ltb-true, false≢true}
use Rattle.std.proofs.lemmas.List.Elements.{filter-append}
use Rattle.std.proofs.lemmas.Option.{same_Some, none-some, slice_get_within}
use Rattle.std.specs.List.{AllByRecursion, slice_get}
use Rattle.std.specs.Option.{option_or, is_some}
use Rattle.mx_ids.specs.declared.room_id.RoomId.{RoomId}
use Rattle.mx_core.specs.Covered.{covered, front_of}
use Rattle.mx_core.specs.History.{item_of, item_at, items_of, keeps_law, own}
use Rattle.mx_core.specs.Orderly.{AreApart, Rise, IsOrderly}
use Rattle.mx_core.specs.declared.history.Stored.{Stored}
use Rattle.mx_core.proofs.Covering.{covered_get}
use Rattle.mx_core.proofs.Histories.{no_item}
use Rattle.mx_core.proofs.InPlace.{covered_in_place}
use Rattle.mx_core.proofs.Owns.{own-here, own-else}
use Rattle.mx_window.specs.Windows.{Ascends, stand_from, between}
use Rattle.mx_window.specs.Lasts.{keep_if}
use Rattle.mx_window.proofs.Each.{AllByRecursion-weaker}
use Rattle.mx_window.proofs.Intervals.{Ascends-filter, Ascends-stand_from}
use Rattle.mx_event.specs.Denied.{denied}
use Rattle.mx_event.specs.Kinds.{create_type, is_of}
use Rattle.mx_event.specs.Lawful.{same_room, of_room, has_target, is_lawful, are_lawful, lawful_store}
use Rattle.mx_event.specs.Shown.{position_of}
use Rattle.mx_event.specs.declared.event.Event.{Event}
use Rattle.mx_event.specs.Valid.{are_valid, IsValid, LawfulIsValid, RoomsAreValid}
use Rattle.mx_event.proofs.Places.{find, find_append, find_stands, find_under, find_filter, same_found, front_split, ascends_join, found_in, item_placed}

pub same_is : (r s : RoomId) → same_room r s ≡ true → r ≡ s
same_is r s h =
    let parts = and_parts (r.writer == s.writer) (r.at == s.at) h in
    let writer : r.writer ≡ s.writer = eqb-true r.writer s.writer parts.0 in
    let at : r.at ≡ s.at = eqb-true r.at s.at parts.1 in
    λ i. record { writer = writer i; at = at i }

one_more : (room : RoomId) (before : List Event) (e : Event) (b : Bool) → same_room e.room room ≡ b → of_room room (before ++ e ∷ []) ≡ of_room room before ++ cond b (e ∷ []) []
one_more room before e b is = filter-append (λ (d : Event). same_room d.room room) before (e ∷ []) ∙ ap (λ t. of_room room before ++ cond t (e ∷ []) []) is

-- ---- a writer's lawful events, by room

-- what a lawful event has: its place, its writer, and that it is allowed
record MayStand (writer : ℕ) (before : List Event) (at : ℕ) (e : Event) : Type 0 where
  place : e.id.at ≡ at
  writes : e.room.writer ≡ writer
  allowed : (is_none (denied e (of_room e.room before)) && has_target e (of_room e.room before)) ≡ true

may_stand : (writer : ℕ) (before : List Event) (at : ℕ) (e : Event) → is_lawful writer before at e ≡ true → MayStand writer before at e
may_stand writer before at e h =
    let place = and_parts (e.id.at == at) _ h in
    let writes = and_parts (e.room.writer == writer) _ place.1 in
    let create = and_parts (not (is_of create_type e) || (e.room.at == at)) _ writes.1 in
    record { place = eqb-true e.id.at at place.0; writes = eqb-true e.room.writer writer writes.0; allowed = create.1 }

pub lawful_is_valid : LawfulIsValid
lawful_is_valid writer at before [] room lawful = refl
lawful_is_valid writer at before (e ∷ es) room lawful =
    let parts = and_parts (is_lawful writer before at e) (are_lawful writer (before ++ e ∷ []) (at + 1) es) lawful in
    by_room (same_room e.room room) refl (may_stand writer before at e parts.0).allowed (lawful_is_valid writer (at + 1) (before ++ e ∷ []) es room parts.1) where
      by_room : (b : Bool) → same_room e.room room ≡ b → (is_none (denied e (of_room e.room before)) && has_target e (of_room e.room before)) ≡ true → are_valid (of_room room (before ++ e ∷ [])) (of_room room es) ≡ true
          → are_valid (of_room room before) (cond (same_room e.room room) (e ∷ of_room room es) (of_room room es)) ≡ true
      by_room true is allowed rest = rw is (and_from (is_none (denied e (of_room room before)) && has_target e (of_room room before)) (are_valid (of_room room before ++ e ∷ []) (of_room room es))
          (ap (λ r. is_none (denied e (of_room r before)) && has_target e (of_room r before)) (sym (same_is e.room room is)) ∙ allowed)
          (ap (λ l. are_valid l (of_room room es)) (sym (one_more room before e true is)) ∙ rest))
      by_room false is allowed rest = rw is (ap (λ l. are_valid l (of_room room es)) (sym (append-nil (of_room room before)) ∙ sym (one_more room before e false is)) ∙ rest)

valid_both : (before xs ys : List Event) → are_valid before xs ≡ true → are_valid (before ++ xs) ys ≡ true → are_valid before (xs ++ ys) ≡ true
valid_both before [] ys h more = subst (λ l. are_valid l ys ≡ true) (append-nil before) more
valid_both before (e ∷ xs) ys h more =
    let parts = and_parts (is_none (denied e before) && has_target e before) (are_valid (before ++ e ∷ []) xs) h in
    and_from (is_none (denied e before) && has_target e before) (are_valid (before ++ e ∷ []) (xs ++ ys)) parts.0
    (valid_both (before ++ e ∷ []) xs ys parts.1 (subst (λ l. are_valid l ys ≡ true) (sym (append_assoc before (e ∷ []) xs)) more))

valid_front : (before xs ys : List Event) → are_valid before (xs ++ ys) ≡ true → are_valid before xs ≡ true
valid_front before [] ys h = refl
valid_front before (e ∷ xs) ys h =
    let parts = and_parts (is_none (denied e before) && has_target e before) (are_valid (before ++ e ∷ []) (xs ++ ys)) h in
    and_from (is_none (denied e before) && has_target e before) (are_valid (before ++ e ∷ []) xs) parts.0 (valid_front (before ++ e ∷ []) xs ys parts.1)

items_last : (ss : List (Stored Event)) (s : Stored Event) → items_of (ss ++ s ∷ []) ≡ items_of ss ++ s.items
items_last [] s = append-nil s.items
items_last (t ∷ ss) s = ap (λ l. t.items ++ l) (items_last ss s) ∙ sym (append_assoc t.items (items_of ss) s.items)

-- ---- one writer's stores in a history

module _ (room : RoomId) where
  abbrev k : ℕ
  k = room.writer

  abbrev in_room : Event → Bool
  in_room e = same_room e.room room

  own_valid : (before h : List (Stored Event)) → keeps_law lawful_store before h ≡ true → are_valid (of_room room (items_of (own before k))) (of_room room (items_of (own h k))) ≡ true
  own_valid before [] h = refl
  own_valid before (s ∷ h) law =
      let parts = and_parts (lawful_store s.writer (own before s.writer) s.first s.items) (keeps_law lawful_store (before ++ s ∷ []) h) law in
      by (nat_eq s.writer k) refl parts.0 (own_valid (before ++ s ∷ []) h parts.1) where
        by : (b : Bool) → nat_eq s.writer k ≡ b → lawful_store s.writer (own before s.writer) s.first s.items ≡ true
            → are_valid (of_room room (items_of (own (before ++ s ∷ []) k))) (of_room room (items_of (own h k))) ≡ true
            → are_valid (of_room room (items_of (own before k))) (of_room room (items_of (cond b (s ∷ own h k) (own h k)))) ≡ true
        by true is lawful rest =
            let writer : s.writer ≡ k = eqb-true s.writer k is in
            let here : are_lawful k (items_of (own before k)) s.first s.items ≡ true = subst (λ w. are_lawful w (items_of (own before w)) s.first s.items ≡ true) writer lawful in
            let grown : own (before ++ s ∷ []) k ≡ own before k ++ s ∷ [] = subst (λ w. own (before ++ s ∷ []) w ≡ own before w ++ s ∷ []) writer (own-here before s) in
            let items : of_room room (items_of (own (before ++ s ∷ []) k)) ≡ of_room room (items_of (own before k)) ++ of_room room s.items =
            ap (λ l. of_room room (items_of l)) grown ∙ ap (of_room room) (items_last (own before k) s) ∙ filter-append in_room (items_of (own before k)) s.items in
            subst (λ l. are_valid (of_room room (items_of (own before k))) l ≡ true) (sym (filter-append in_room s.items (items_of (own h k))))
            (valid_both (of_room room (items_of (own before k))) (of_room room s.items) (of_room room (items_of (own h k))) (lawful_is_valid k s.first (items_of (own before k)) s.items room here)
            (subst (λ l. are_valid l (of_room room (items_of (own h k))) ≡ true) items rest))
        by false other lawful rest =
            subst (λ l. are_valid (of_room room (items_of l)) (of_room room (items_of (own h k))) ≡ true)
            (own-else before s k (λ same. false≢true (sym other ∙ eq-eqb s.writer k same))) rest

  -- ---- places

  -- each item stands at its position, in a room of the store's writer
  abbrev IsWritten : Stored Event → Type 0
  IsWritten s = (stand_from position_of s.first s.items ≡ true) × AllByRecursion (λ (e : Event). e.room.writer ≡ s.writer) s.items

  written_by : (writer : ℕ) (before : List Event) (at : ℕ) (es : List Event) → are_lawful writer before at es ≡ true
      → (stand_from position_of at es ≡ true) × AllByRecursion (λ (e : Event). e.room.writer ≡ writer) es
  written_by writer before at [] h = (refl, tt)
  written_by writer before at (e ∷ es) h =
      let parts = and_parts (is_lawful writer before at e) (are_lawful writer (before ++ e ∷ []) (at + 1) es) h in
      let is = may_stand writer before at e parts.0 in
      let rest = written_by writer (before ++ e ∷ []) (at + 1) es parts.1 in
      (and_from (nat_eq e.id.at at) (stand_from position_of (at + 1) es) (eq-eqb e.id.at at is.place) rest.0, (is.writes, rest.1))

  all_written : (before h : List (Stored Event)) → keeps_law lawful_store before h ≡ true → AllByRecursion IsWritten h
  all_written before [] law = tt
  all_written before (s ∷ h) law =
      let parts = and_parts (lawful_store s.writer (own before s.writer) s.first s.items) (keeps_law lawful_store (before ++ s ∷ []) h) law in
      (written_by s.writer (items_of (own before s.writer)) s.first s.items parts.0, all_written (before ++ s ∷ []) h parts.1)

  own_written : (h : List (Stored Event)) → AllByRecursion IsWritten h → AllByRecursion IsWritten (own h k)
  own_written [] all = tt
  own_written (s ∷ h) all = by (nat_eq s.writer k) (own_written h all.1) where
    by : (b : Bool) → AllByRecursion IsWritten (own h k) → AllByRecursion IsWritten (cond b (s ∷ own h k) (own h k))
    by true rest = (all.0, rest)
    by false rest = rest

  found_all : (ss : List (Stored Event)) (p : ℕ) → AllByRecursion IsWritten ss → find position_of p (items_of ss) ≡ item_at ss p
  found_all [] p all = refl
  found_all (s ∷ ss) p all = find_append position_of p s.items (items_of ss) ∙ ap₂ option_or (found_in position_of s p all.0.0) (found_all ss p all.1)

  -- a writer's stores rise, so its items do
  ascends_own : (above : ℕ) (ss : List (Stored Event)) → Rise above ss → AllByRecursion IsWritten ss → Ascends position_of above (items_of ss)
  ascends_own above [] rise all = tt
  ascends_own above (s ∷ ss) rise all = ascends_join position_of above s.first s.items (items_of ss) rise.0 all.0.0 (ascends_own (s.first + length s.items - 1) ss rise.1 all.1)

  -- ---- the room at a position, in the history and in its writer's stores

  got_of : (P : Event → Type 0) (es : List Event) (i : ℕ) (x : Event) → AllByRecursion P es → ◌≡◌ {A = Option Event} (slice_get es i) (Some x) → P x
  got_of P [] i x all is = absurd (none-some x is)
  got_of P (e ∷ es) zero x all is = subst P (same_Some e x is) all.0
  got_of P (e ∷ es) (suc i) x all is = got_of P es i x all.1 is

  writer_of : (s : Stored Event) (p : ℕ) (x : Event) → IsWritten s → ◌≡◌ {A = Option Event} (item_of s p) (Some x) → x.room.writer ≡ s.writer
  writer_of s p x is found = by (nat_le s.first p) found where
    by : (b : Bool) → ◌≡◌ {A = Option Event} (cond b (slice_get s.items (p - s.first)) None) (Some x) → x.room.writer ≡ s.writer
    by true found = got_of (λ (e : Event). e.room.writer ≡ s.writer) s.items (p - s.first) x is.1 found
    by false found = absurd (none-some x found)

  kept_own : (h : List (Stored Event)) (p : ℕ) → AllByRecursion IsWritten h → AreApart h → keep_if in_room (item_at (own h k) p) ≡ keep_if in_room (item_at h p)
  kept_own [] p all apart = refl
  kept_own (s ∷ h) p all apart = by (nat_eq s.writer k) refl (item_of s p) refl (kept_own h p all.1 apart.1) where
    by : (b : Bool) → nat_eq s.writer k ≡ b → (o : Option Event) → item_of s p ≡ o → keep_if in_room (item_at (own h k) p) ≡ keep_if in_room (item_at h p)
        → keep_if in_room (item_at (cond b (s ∷ own h k) (own h k)) p) ≡ keep_if in_room (option_or (item_of s p) (item_at h p))
    by true mine None none rest = ap (λ o. keep_if in_room (option_or o (item_at (own h k) p))) none ∙ rest ∙ sym (ap (λ o. keep_if in_room (option_or o (item_at h p))) none)
    by true mine (Some x) some rest = ap (λ o. keep_if in_room (option_or o (item_at (own h k) p))) some ∙ sym (ap (λ o. keep_if in_room (option_or o (item_at h p))) some)
    by false other None none rest = rest ∙ sym (ap (λ o. keep_if in_room (option_or o (item_at h p))) none)
    by false other (Some x) some rest =
        let empty : item_at h p ≡ None = no_item h p (apart.0 p (ap is_some some)) in
        let elsewhere : in_room x ≡ false = ap (λ c. c && (x.room.at == room.at)) (ap (λ w. nat_eq w k) (writer_of s p x all.0 some) ∙ other) in
        rest ∙ ap (keep_if in_room) empty ∙ sym (ap (λ b. cond b (Some x) None) elsewhere) ∙ sym (ap (λ o. keep_if in_room (option_or o (item_at h p))) some)

-- ---- the items up to the front

-- what is covered at a position
covered_at : (h : List (Stored Event)) (p : ℕ) → stand_from position_of 1 (covered h) ≡ true → 0 < p → p ≤ front_of h → find position_of p (covered h) ≡ item_at h p
covered_at h zero stands pos le = absurd (omega (arith, pos))
covered_at h (suc i) stands pos le =
    let place : suc i ≡ 1 + i = omega arith in
    ap (λ q. find position_of q (covered h)) place ∙ find_stands position_of 1 i (covered h) stands ∙ covered_get h i (omega (arith, le)) ∙ ap (item_at h) (sym place)

covered_else : (h : List (Stored Event)) (p : ℕ) → stand_from position_of 1 (covered h) ≡ true → (0 < p → p ≤ front_of h → ⊥) → find position_of p (covered h) ≡ None
covered_else h zero stands out = find_under position_of 1 0 (covered h) stands (omega arith)
covered_else h (suc i) stands out =
    let place : suc i ≡ 1 + i = omega arith in
    let beyond : front_of h ≤ i = elim (cases_lt i (front_of h)) [
      | inl within ↦ absurd (out (omega arith) (omega (arith, within)))
      | inr over ↦ over
    ] in
    ap (λ q. find position_of q (covered h)) place ∙ find_stands position_of 1 i (covered h) stands ∙ past (covered h) i beyond where
      past : (xs : List Event) (i : ℕ) → length xs ≤ i → slice_get xs i ≡ None
      past [] i over = refl
      past (x ∷ xs) zero over = absurd (omega (arith, over))
      past (x ∷ xs) (suc i) over = past xs i (omega (arith, over))

module _ (h : List (Stored Event)) (orderly : IsOrderly h) (law : keeps_law lawful_store [] h ≡ true) (room : RoomId) where
  abbrev written : AllByRecursion (IsWritten room) h
  written = all_written room [] h law

  abbrev mine : List Event
  mine = items_of (own h room.writer)

  up_all : Ascends position_of 0 mine
  up_all = ascends_own room 0 (own h room.writer) (orderly.rise room.writer) (own_written room h written)

  up_own : Ascends position_of 0 (of_room room mine)
  up_own = Ascends-filter position_of 0 (in_room room) mine up_all

  placed : AllByRecursion (λ (s : Stored Event). stand_from position_of s.first s.items ≡ true) h
  placed = AllByRecursion-weaker (IsWritten room) (λ (s : Stored Event). stand_from position_of s.first s.items ≡ true) (λ s is. is.0) h written

  stands : stand_from position_of 1 (covered h) ≡ true
  stands = covered_in_place position_of lawful_store h (λ writer before first items is. (written_by room writer (items_of before) first items is).0) law

  abbrev in_front : Event → Bool
  in_front e = nat_lt 0 e.id.at && nat_le e.id.at (front_of h)

  -- an item that stands inside the front, or outside
  kept_if : (b : Bool) (o : Option Event) → ((x : Event) → ◌≡◌ {A = Option Event} o (Some x) → in_front x ≡ b) → keep_if in_front (keep_if (in_room room) o) ≡ cond b (keep_if (in_room room) o) None
  kept_if true None is = refl
  kept_if false None is = refl
  kept_if b (Some x) is = by (in_room room x) b refl where
    by : (t c : Bool) → c ≡ b → keep_if in_front (cond t (Some x) None) ≡ cond c (cond t (Some x) None) None
    by true c same = ap (λ d. cond d (Some x) None) (is x refl ∙ sym same)
    by false true same = refl
    by false false same = refl

  same_at : (p : ℕ) → find position_of p (between position_of 0 (front_of h) (of_room room mine)) ≡ find position_of p (of_room room (covered h))
  same_at p =
      find_filter position_of in_front 0 p (of_room room mine) up_own
      ∙ ap (keep_if in_front) (find_filter position_of (in_room room) 0 p mine up_all ∙ ap (keep_if (in_room room)) (found_all room (own h room.writer) p (own_written room h written)) ∙ kept_own room h p written orderly.apart)
      ∙ inside (nat_lt 0 p && nat_le p (front_of h)) refl
      ∙ sym (find_filter position_of (in_room room) 0 p (covered h) (Ascends-stand_from position_of 0 1 (covered h) (omega arith) stands)) where
        there : (b : Bool) → (nat_lt 0 p && nat_le p (front_of h)) ≡ b → keep_if in_front (keep_if (in_room room) (item_at h p)) ≡ cond b (keep_if (in_room room) (item_at h p)) None
        there b is = kept_if b (item_at h p) (λ x e. ap (λ q. nat_lt 0 q && nat_le q (front_of h)) (item_placed position_of h p x placed e) ∙ is)

        inside : (b : Bool) → (nat_lt 0 p && nat_le p (front_of h)) ≡ b → keep_if in_front (keep_if (in_room room) (item_at h p)) ≡ keep_if (in_room room) (find position_of p (covered h))
        inside true is =
            let parts = and_parts (nat_lt 0 p) (nat_le p (front_of h)) is in
            there true is ∙ ap (keep_if (in_room room)) (sym (covered_at h p stands (ltb-true 0 p parts.0) (leb-true p (front_of h) parts.1)))
        inside false is =
            there false is
            ∙ ap (keep_if (in_room room)) (sym (covered_else h p stands (λ pos le. false≢true (sym is ∙ and_from (nat_lt 0 p) (nat_le p (front_of h)) (lt-ltb 0 p pos) (le-leb p (front_of h) le)))))

  room_valid : IsValid (of_room room (covered h))
  room_valid =
      let es : List Event = of_room room mine in
      let ascends : Ascends position_of 0 (of_room room (covered h)) = Ascends-filter position_of 0 (in_room room) (covered h) (Ascends-stand_from position_of 0 1 (covered h) (omega arith) stands) in
      let same : between position_of 0 (front_of h) es ≡ of_room room (covered h) = same_found position_of 0 (between position_of 0 (front_of h) es) (of_room room (covered h)) (Ascends-filter position_of 0 in_front es up_own) ascends same_at in
      let split = front_split position_of 0 (front_of h) es up_own in
      record {
        ascends = ascends;
        valid = valid_front [] (of_room room (covered h)) split.0 (subst (λ l. are_valid [] l ≡ true) (split.1 ∙ ap (λ l. l ++ split.0) same) (own_valid room [] h law));
      }

pub rooms_are_valid : RoomsAreValid
rooms_are_valid h orderly law = (stands h orderly law (record { writer = 0; at = 0 }), λ room. room_valid h orderly law room)
