-- What is found at the positions of a list whose events stand at consecutive ones.
use Rattle.std.proofs.Common.{◌≡◌, ℕ, zero, suc, ◌+◌, ◌<◌, ◌==◌, Bool, true, false, not, cond, List, [], ◌∷◌, filter, nat_eq, Option, Some, None, is_some, slice_get, refl, ap, sym, ◌∙◌, arith}
use Rattle.std.proofs.lemmas.Bool.{and_parts, eqb-true}
use Rattle.std.specs.List.{AllByRecursion}
use Rattle.std.specs.Option.{option_to_list}
use Rattle.mx_ids.specs.declared.room_id.RoomId.{RoomId}
use Rattle.mx_window.specs.Lasts.{keep_if, last_at, last_of}
use Rattle.mx_window.specs.Windows.{stand_from}
use Rattle.mx_window.proofs.Each.{filter-swap}
use Rattle.mx_window.proofs.Lasts.{is_some-last_of, last_of-some}
use Rattle.mx_event.specs.Lawful.{same_room}
use Rattle.mx_event.specs.Shown.{first_of, position_of}
use Rattle.mx_event.specs.declared.event.Event.{Event}
use Rattle.mx_snapshot.specs.Looks.{at_position, last_position}
use Rattle.mx_fold.specs.Lists.{Lists}
use Rattle.mx_room_reads.specs.Places.{has_room}
use Rattle.mx_room_reads.specs.Reads.{event_at}

other : (m n : ℕ) → (m ≡ n → ⊥) → nat_eq m n ≡ false
other m n apart = by (nat_eq m n) refl where
  by : (b : Bool) → nat_eq m n ≡ b → b ≡ false
  by true is = absurd (apart (eqb-true m n is))
  by false is = refl

-- the positions are above 0
above : (first : ℕ) (es : List Event) → 0 < first → stand_from position_of first es ≡ true → AllByRecursion (λ (e : Event). 0 < e.id.at) es
above first [] low placed = tt
above first (e ∷ es) low placed =
    let parts = and_parts (nat_eq e.id.at first) (stand_from position_of (first + 1) es) placed in
    let at : e.id.at ≡ first = eqb-true e.id.at first parts.0 in
    let here : 0 < e.id.at = omega (arith, at, low) in
    (here, above (first + 1) es (omega (arith, low)) parts.1)

positive : (n : ℕ) → 0 < n → not (n == 0) ≡ true
positive n h = ap not (other n 0 (λ is. omega (arith, h, is)))

-- a room is there where its last event has a position
pub room_is : (l : Lists) (room : RoomId) → stand_from position_of 1 l.events ≡ true
    → not (last_position position_of (λ (e : Event). same_room e.room room) l.events == 0) ≡ has_room l room
room_is l room placed = by (last_of test l.events) refl ∙ sym (is_some-last_of test l.events) where
  test : Event → Bool
  test e = same_room e.room room

  by : (o : Option Event) → last_of test l.events ≡ o → not (last_at position_of 0 o == 0) ≡ is_some o
  by None is = refl
  by (Some e) is = positive e.id.at (last_of-some (λ (d : Event). 0 < d.id.at) test l.events e (above 1 l.events (omega arith) placed) is).1

-- none stands before the first
none_before : (at first : ℕ) (es : List Event) → at < first → stand_from position_of first es ≡ true → filter (λ (e : Event). nat_eq e.id.at at) es ≡ []
none_before at first [] low placed = refl
none_before at first (e ∷ es) low placed =
    let parts = and_parts (nat_eq e.id.at first) (stand_from position_of (first + 1) es) placed in
    let here : e.id.at ≡ first = eqb-true e.id.at first parts.0 in
    ap (λ b. cond b (e ∷ filter (λ (d : Event). nat_eq d.id.at at) es) (filter (λ (d : Event). nat_eq d.id.at at) es))
    (other e.id.at at (λ is. omega (arith, is, here, low)))
    ∙ none_before at (first + 1) es (omega (arith, low)) parts.1

-- the one at an index
at_index : (first k at : ℕ) (es : List Event) → at ≡ first + k → stand_from position_of first es ≡ true
    → filter (λ (e : Event). nat_eq e.id.at at) es ≡ option_to_list (slice_get es k)
at_index first k at [] is placed = refl
at_index first zero at (e ∷ es) is placed =
    let parts = and_parts (nat_eq e.id.at first) (stand_from position_of (first + 1) es) placed in
    let here : e.id.at ≡ first = eqb-true e.id.at first parts.0 in
    let same : first ≡ at = omega (arith, is) in
    let low : at < first + 1 = omega (arith, is) in
    ap (λ b. cond b (e ∷ filter (λ (d : Event). nat_eq d.id.at at) es) (filter (λ (d : Event). nat_eq d.id.at at) es))
    (ap (λ n. nat_eq e.id.at n) (sym same) ∙ parts.0)
    ∙ ap (λ ds. e ∷ ds) (none_before at (first + 1) es low parts.1)
at_index first (suc k) at (e ∷ es) is placed =
    let parts = and_parts (nat_eq e.id.at first) (stand_from position_of (first + 1) es) placed in
    let here : e.id.at ≡ first = eqb-true e.id.at first parts.0 in
    let after : at ≡ first + 1 + k = omega (arith, is) in
    ap (λ b. cond b (e ∷ filter (λ (d : Event). nat_eq d.id.at at) es) (filter (λ (d : Event). nat_eq d.id.at at) es))
    (other e.id.at at (λ same. omega (arith, same, is, here)))
    ∙ at_index (first + 1) k at es after parts.1

at_one : (at : ℕ) (es : List Event) → stand_from position_of 1 es ≡ true → filter (λ (e : Event). nat_eq e.id.at at) es ≡ option_to_list (at_position es at)
at_one zero es placed = none_before 0 1 es (omega arith) placed
at_one (suc k) es placed = at_index 1 k (suc k) es (omega arith) placed

first_kept : (test : Event → Bool) (o : Option Event) → first_of (filter test (option_to_list o)) ≡ keep_if test o
first_kept test None = refl
first_kept test (Some e) = by (test e) where
  by : (b : Bool) → first_of (cond b (e ∷ []) []) ≡ cond b (Some e) None
  by true = refl
  by false = refl

-- the event at a position, if it is of the room
pub found_at : (l : Lists) (room : RoomId) (at : ℕ) → stand_from position_of 1 l.events ≡ true
    → event_at l room at ≡ keep_if (λ (e : Event). same_room e.room room) (at_position l.events at)
found_at l room at placed =
    ap first_of
    (filter-swap (λ (e : Event). nat_eq e.id.at at) (λ (e : Event). same_room e.room room) l.events
    ∙ ap (filter (λ (e : Event). same_room e.room room)) (at_one at l.events placed))
    ∙ first_kept (λ (e : Event). same_room e.room room) (at_position l.events at)
