-- The first redaction of an event lies in its own room.
use Rattle.std.proofs.Common.{◌≡◌, ℕ, ◌<◌, ◌≤◌, Bool, true, false, not, cond, nat_eq, nat_lt, nat_le, ◌&&◌, ◌||◌, List, [], ◌∷◌, ◌++◌, filter, Option, Some, None, is_none, refl, sym, ap, ◌∙◌, arith, inl, inr}
use Rattle.std.proofs.lemmas.Bool.{cases_Bool, and_parts, and_from, eqb-true, eq-eqb, lt-leb, leb-false}
use Rattle.std.specs.List.{AllByRecursion, list_any}
use Rattle.mx_ids.specs.declared.event_id.EventId.{EventId}
use Rattle.mx_ids.specs.declared.room_id.RoomId.{RoomId}
use Rattle.mx_window.specs.Lasts.{keep_if}
use Rattle.mx_window.specs.Windows.{Ascends, stand_from}
use Rattle.mx_window.proofs.Each.{AllByRecursion-append, AllByRecursion-filter, AllByRecursion-passed, AllByRecursion-both, AllByRecursion-weaker, filter-same}
use Rattle.mx_window.proofs.Intervals.{Ascends-filter}
use Rattle.mx_event.specs.Kinds.{is_redaction}
use Rattle.mx_event.specs.Denied.{denied}
use Rattle.mx_event.specs.Lawful.{has_target, of_room, same_room}
use Rattle.mx_event.specs.Shown.{first_of, is_at, named_id, names, position_of}
use Rattle.mx_event.specs.Valid.{IsValid, are_valid}
use Rattle.mx_event.specs.declared.event.Event.{Event}
use Rattle.mx_snapshot.specs.Events.{first_redaction, redacts}
use Rattle.mx_snapshot.specs.FirstRedactions.{FirstsAreOfRoom}
use Rattle.mx_snapshot.specs.Looks.{at_position}
use Rattle.mx_snapshot.proofs.Found.{all_found, placed_ascends, twice}

-- ---- rooms

same_itself : (n : ℕ) → nat_eq n n ≡ true
same_itself n = eq-eqb n n refl

never : {A : Type 0} → ◌≡◌ {A = Bool} false true → A
never h = absurd cc

same_number : (m n : ℕ) → nat_eq m n ≡ true → nat_eq n m ≡ true
same_number m n is = ap (λ k. nat_eq n k) (eqb-true m n is) ∙ same_itself n

room_itself : (r : RoomId) → same_room r r ≡ true
room_itself r = and_from (nat_eq r.writer r.writer) (nat_eq r.at r.at) (same_itself r.writer) (same_itself r.at)

room_swap : (r s : RoomId) → same_room r s ≡ true → same_room s r ≡ true
room_swap r s is =
    let parts = and_parts (nat_eq r.writer s.writer) (nat_eq r.at s.at) is in
    and_from (nat_eq s.writer r.writer) (nat_eq s.at r.at) (same_number r.writer s.writer parts.0) (same_number r.at s.at parts.1)

-- ---- what a valid redaction names

names_redaction : (e : Event) (p : ℕ) → names e p ≡ true → is_redaction e ≡ true
names_redaction e p is = elim (cases_Bool (is_redaction e)) [
  | inl a ↦ a
  | inr a ↦ never (let h : is_at p (named_id e) ≡ true = is in let n : named_id e ≡ None = rw a refl in ◌∙◌ {A = Bool} (sym (ap (is_at p) n)) h)
]

one_named : (o : Option EventId) (p q : ℕ) → is_at p o ≡ true → is_at q o ≡ true → p ≡ q
one_named None p q first second = never first
one_named (Some id) p q first second = sym (eqb-true id.at p first) ∙ eqb-true id.at q second

-- an item of a list that passes a test, with what holds of each
some_item : {A : Type 0} (P : A → Type 0) (test : A → Bool) (xs : List A) → AllByRecursion P xs → list_any test xs ≡ true → (x : A) × P x × (test x ≡ true)
some_item P test [] all any = never any
some_item {A} P test (x ∷ xs) all any = by_test (test x) refl (some_item P test xs all.1) any where
  by_test : (b : Bool) → test x ≡ b → (list_any test xs ≡ true → (y : A) × P y × (test y ≡ true)) → (test x || list_any test xs) ≡ true → (y : A) × P y × (test y ≡ true)
  by_test true is rest any = (x, all.0, is)
  by_test false is rest any = rest (sym (ap (λ b. b || list_any test xs) is) ∙ any)

-- each redaction names one of the events before it, of which something holds
all_named : (P : Event → Type 0) (before es : List Event) → AllByRecursion P before → AllByRecursion P es → are_valid before es ≡ true
    → AllByRecursion (λ (e : Event). (p : ℕ) → names e p ≡ true → (w : Event) × P w × (names e w.id.at ≡ true)) es
all_named P before [] past all valid = tt
all_named P before (e ∷ es) past all valid =
    let parts = and_parts (is_none (denied e before) && has_target e before) (are_valid (before ++ e ∷ []) es) valid in
    let target : has_target e before ≡ true = (and_parts (is_none (denied e before)) (has_target e before) parts.0).1 in (
      λ p is. some_item P (λ w. names e w.id.at) before past (sym (ap (λ b. not b || list_any (λ (w : Event). names e w.id.at) before) (names_redaction e p is)) ∙ target),
      all_named P (before ++ e ∷ []) es (AllByRecursion-append P before (e ∷ []) past (all.0, tt)) all.1 parts.1,
    )

-- what holds of the events of each room holds of all
all_rooms : (Q : RoomId → Event → Type 0) (es : List Event) → ((room : RoomId) → AllByRecursion (Q room) (filter (λ (e : Event). same_room e.room room) es)) → AllByRecursion (λ (e : Event). Q e.room e) es
all_rooms Q [] each = tt
all_rooms Q (e ∷ es) each = (own (same_room e.room e.room) (room_itself e.room) (each e.room), all_rooms Q es (λ room. rest room (same_room e.room room) (each room))) where
  own : (b : Bool) → b ≡ true → AllByRecursion (Q e.room) (cond b (e ∷ filter (λ (d : Event). same_room d.room e.room) es) (filter (λ (d : Event). same_room d.room e.room) es)) → Q e.room e
  own true is all = all.0
  own false is all = never is

  rest : (room : RoomId) (b : Bool) → AllByRecursion (Q room) (cond b (e ∷ filter (λ (d : Event). same_room d.room room) es) (filter (λ (d : Event). same_room d.room room) es))
      → AllByRecursion (Q room) (filter (λ (d : Event). same_room d.room room) es)
  rest room true all = all.1
  rest room false all = all

-- each event that names a position where an event stands is of that event's room
in_room : (es : List Event) → stand_from position_of 1 es ≡ true → ((room : RoomId) → IsValid (of_room room es)) → (v : Event) → at_position es v.id.at ≡ Some v
    → AllByRecursion (λ (e : Event). names e v.id.at ≡ true → same_room e.room v.room ≡ true) es
in_room es placed valid v here =
    AllByRecursion-weaker (λ (e : Event). (p : ℕ) → names e p ≡ true → (w : Event) × ((same_room w.room e.room ≡ true) × (at_position es w.id.at ≡ Some w)) × (names e w.id.at ≡ true))
    (λ (e : Event). names e v.id.at ≡ true → same_room e.room v.room ≡ true)
    (λ e named is.
    let found = named v.id.at is in
    let w : Event = found.0 in
    let place : w.id.at ≡ v.id.at = one_named (named_id e) w.id.at v.id.at found.2 is in
    let both : ◌≡◌ {A = Option Event} (Some w) (Some v) = sym found.1.1 ∙ ap (at_position es) place ∙ here in
    let same : w ≡ v = search both in
    room_swap v.room e.room (ap (λ (x : Event). same_room x.room e.room) (sym same) ∙ found.1.0)) es
    (all_rooms (λ room e. (p : ℕ) → names e p ≡ true → (w : Event) × ((same_room w.room room ≡ true) × (at_position es w.id.at ≡ Some w)) × (names e w.id.at ≡ true)) es
    (λ room. all_named (λ (w : Event). (same_room w.room room ≡ true) × (at_position es w.id.at ≡ Some w)) [] (of_room room es) tt
    (AllByRecursion-both (λ (w : Event). same_room w.room room ≡ true) (λ (w : Event). at_position es w.id.at ≡ Some w) (of_room room es)
    (AllByRecursion-passed (λ (w : Event). same_room w.room room) es)
    (AllByRecursion-filter (λ (w : Event). at_position es w.id.at ≡ Some w) (λ (w : Event). same_room w.room room) es (all_found position_of es placed)))
    (valid room).valid))

-- ---- the first of them

first_passes : (p : ℕ) (es : List Event) → first_redaction es p ≡ first_of (filter (redacts p) es)
first_passes p [] = refl
first_passes p (e ∷ es) = by_test (redacts p e) (first_passes p es) where
  by_test : (b : Bool) → first_redaction es p ≡ first_of (filter (redacts p) es) → cond b (Some e) (first_redaction es p) ≡ first_of (cond b (e ∷ filter (redacts p) es) (filter (redacts p) es))
  by_test true rest = refl
  by_test false rest = rest

none_first : (front low : ℕ) (es : List Event) → Ascends position_of low es → front ≤ low → keep_if (λ (e : Event). nat_le e.id.at front) (first_of es) ≡ None
none_first front low [] up over = refl
none_first front low (e ∷ es) up over = let above : low < e.id.at = up.0 in ap (λ b. cond b (Some e) None) (lt-leb e.id.at front (omega (arith, above, over)))

none_upto : (front low : ℕ) (es : List Event) → Ascends position_of low es → front ≤ low → first_of (filter (λ (e : Event). nat_le e.id.at front) es) ≡ None
none_upto front low [] up over = refl
none_upto front low (e ∷ es) up over =
    let above : low < e.id.at = up.0 in
    ap (λ b. first_of (cond b (e ∷ filter (λ (d : Event). nat_le d.id.at front) es) (filter (λ (d : Event). nat_le d.id.at front) es))) (lt-leb e.id.at front (omega (arith, above, over)))
    ∙ none_upto front e.id.at es up.1 (omega (arith, above, over))

-- the first of ascending events, if it lies up to a front, is the first of those up to the front
first_upto : (front low : ℕ) (es : List Event) → Ascends position_of low es
    → keep_if (λ (e : Event). nat_le e.id.at front) (first_of es) ≡ first_of (filter (λ (e : Event). nat_le e.id.at front) es)
first_upto front low [] up = refl
first_upto front low (e ∷ es) up = by_test (nat_le e.id.at front) refl where
  by_test : (b : Bool) → nat_le e.id.at front ≡ b → cond b (Some e) None ≡ first_of (cond b (e ∷ filter (λ (d : Event). nat_le d.id.at front) es) (filter (λ (d : Event). nat_le d.id.at front) es))
  by_test true is = refl
  by_test false is = sym (none_upto front e.id.at es up.1 (let over : front < e.id.at = leb-false e.id.at front is in omega (arith, over)))

-- the tests, one after the other
one_test : (named below upto own : Bool) → (named ≡ true → own ≡ true) → ((named && below) && upto) ≡ ((own && (below && upto)) && named)
one_test true below upto true own = by_bools below upto where
  by_bools : (a b : Bool) → (a && b) ≡ ((a && b) && true)
  by_bools true true = refl
  by_bools true false = refl
  by_bools false b = refl
one_test true below upto false own = never (own refl)
one_test false below upto own is = sym (none ((own && (below && upto)))) where
  none : (b : Bool) → (b && false) ≡ false
  none true = refl
  none false = refl

pub firsts_are : FirstsAreOfRoom
firsts_are es placed valid v here front =
    let p = v.id.at in
    let up = placed_ascends position_of es placed in
    ap (keep_if (λ (e : Event). nat_le e.id.at front)) (first_passes p es)
    ∙ first_upto front 0 (filter (redacts p) es) (Ascends-filter position_of 0 (redacts p) es up)
    ∙ ap first_of (twice (λ (e : Event). nat_le e.id.at front) (redacts p) es
    ∙ filter-same (λ (e : Event). redacts p e && nat_le e.id.at front) (λ (e : Event). (same_room e.room v.room && (nat_lt p e.id.at && nat_le e.id.at front)) && names e p) es
    (AllByRecursion-weaker (λ (e : Event). names e p ≡ true → same_room e.room v.room ≡ true)
    (λ (e : Event). (redacts p e && nat_le e.id.at front) ≡ ((same_room e.room v.room && (nat_lt p e.id.at && nat_le e.id.at front)) && names e p))
    (λ e own. one_test (names e p) (nat_lt p e.id.at) (nat_le e.id.at front) (same_room e.room v.room) own) es (in_room es placed valid v here))
    ∙ sym (twice (λ (e : Event). names e p) (λ (e : Event). same_room e.room v.room && (nat_lt p e.id.at && nat_le e.id.at front)) es)
    ∙ ap (filter (λ (e : Event). names e p)) (sym (twice (λ (e : Event). nat_lt p e.id.at && nat_le e.id.at front) (λ (e : Event). same_room e.room v.room) es)))
