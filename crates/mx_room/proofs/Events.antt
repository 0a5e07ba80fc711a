-- The events of a room by the fields of a book, and what becomes of an event.
use Rattle.std.proofs.Common.{◌≡◌, ℕ, ◌<◌, ◌&&◌, nat_lt, Bool, true, false, cond, List, [], ◌∷◌, drop, get_or, length, map, Option, Some, None, Result, Ok, Err, MatchOption, is_some, refl, sym, ap, ap₂, subst, ◌∙◌, arith}
use Rattle.std.proofs.lemmas.Bool.{eq-eqb, lt-ltb}
use Rattle.mx_ids.specs.declared.event_id.EventId.{EventId}
use Rattle.mx_ids.specs.declared.room_id.RoomId.{RoomId}
use Rattle.mx_event.specs.declared.event.Event.{Event}
use Rattle.mx_event.specs.declared.event.Txn.{Txn}
use Rattle.mx_auth.specs.Standing.{Standing}
use Rattle.mx_room.specs.declared.admitted.Admitted.{Admitted}
use Rattle.mx_room.specs.declared.admitted.Admitted.TheVariants as admitted
use Rattle.mx_room.specs.declared.fault.RoomFault.{RoomFault}
use Rattle.mx_room.specs.declared.fault.RoomFault.TheVariants as faults
use Rattle.mx_room.specs.declared.rooms.Room.{Room}
use Rattle.mx_room.specs.declared.txns.TxnIndex.{TxnIndex}
use Rattle.mx_room.specs.declared.txn_key.TxnKey.{TxnKey}
use Rattle.mx_room.specs.Admitting.{has_room, outcome, sent_in, unless_sent}
use Rattle.mx_room.specs.Books.{Rooms, events_of, room_events}
use Rattle.mx_room.specs.Held.{IsBook, IsRoomAt, Opens, bare, events_at, events_in, state_at}
use Rattle.mx_room.specs.Keys.{sent_at, txn_of}
use Rattle.mx_room.proofs.Finding.{none_at, some_at}
use Rattle.mx_room.proofs.Taking.{opened_at}

-- ---- a room by its index

module _ (writer : ℕ) (rs : List Room) (room : RoomId) where
  own_writer : room.writer ≡ writer → events_in writer (map bare rs) room ≡ events_at room.at (map bare rs)
  own_writer mine = ap (λ w. cond w (events_at room.at (map bare rs)) []) (eq-eqb room.writer writer mine)

  abbrev Found : Option ℕ → Type 0
  Found o = MatchOption o (events_in writer (map bare rs) room ≡ []) (λ i. IsRoomAt writer rs room i)

  pub a_room : room.writer ≡ writer → (o : Option ℕ)
      → MatchOption o (state_at room.at rs ≡ None) (λ i. (i < length rs) × ((d : Room) → (get_or rs i d).at ≡ room.at) × ((d : Room) → state_at room.at rs ≡ Some (get_or rs i d).state))
      → Found o
  a_room mine None h = own_writer mine ∙ none_at room.at rs h
  a_room mine (Some i) h = record {
    within = h.0;
    writes = mine;
    here = h.1;
    holds = λ d. own_writer mine ∙ some_at room.at rs (get_or rs i d).state (h.2 d);
  }

pub is_none : {A : Type 0} (o : Option A) → ((x : A) → o ≡ Some x → ⊥) → o ≡ None
is_none None other = refl
is_none (Some x) other = absurd (other x refl)

-- ---- the events of a room

module _ {writer : ℕ} {rs : List Room} {txns : TxnIndex} {key : Option TxnKey} {fresh : Option Standing} {spare : Type 0} {b : Rooms} (held : IsBook writer rs txns key fresh spare b) (view : Rooms) (is : b ≡ view) where
  pub its_events : (room : RoomId) (old : List Room) → old ≡ rs → (es : List Event) → events_in writer (map bare old) room ≡ es → room_events view room ≡ es
  its_events room old was es h =
      ap (λ v. room_events v room) (sym is) ∙ (sym (held.same room) ∙ (ap (λ l. events_in writer (map bare l) room) (sym was) ∙ h))

  -- the event that was sent in a transaction
  pub its_sent : (k : Option TxnKey) (t : Option Txn) → txn_of k ≡ t → sent_at txns k ≡ sent_in t (events_of view)
  its_sent k t named = by_key k ∙ ap₂ (λ (u : Option Txn) (v : Rooms). sent_in u (events_of v)) named is where
    by_key : (l : Option TxnKey) → sent_at txns l ≡ sent_in (txn_of l) (events_of b)
    by_key None = refl
    by_key (Some l) = held.sent l

-- ---- what becomes of an event

module _ (e : Event) where
  abbrev unless_room : (b : Rooms) → Bool → Result Admitted RoomFault
  unless_room b has = cond has (unless_sent e (room_events b e.room) (sent_in e.txn (events_of b))) (Err faults.NoRoom)

  pub outcome_none : (b : Rooms) → room_events b e.room ≡ [] → outcome b e ≡ Err faults.NoRoom
  outcome_none b h = ap (λ es. unless_room b (nat_lt 0 e.room.at && nat_lt 0 (length es))) h ∙ none (nat_lt 0 e.room.at) where
    none : (placed : Bool) → unless_room b (placed && false) ≡ Err faults.NoRoom
    none true = refl
    none false = refl

  some_events : (es : List Event) (v : Event) → es ≡ v ∷ drop 1 es → nat_lt 0 (length es) ≡ true
  some_events [] v is = absurd cc
  some_events (x ∷ xs) v is = lt-ltb 0 (length (x ∷ xs)) (omega arith)

  pub outcome_found : (b : Rooms) (r : Room) → Opens (bare r) → r.at ≡ e.room.at → room_events b e.room ≡ r.state.events → (s : Option EventId) → s ≡ sent_in e.txn (events_of b)
      → outcome b e ≡ unless_sent e r.state.events s
  outcome_found b r opens at is s sent =
      ap₂ (λ placed some. unless_room b (placed && some)) (lt-ltb 0 e.room.at (subst (λ n. 0 < n) at opens.placed)) (ap (λ es. nat_lt 0 (length es)) is ∙ some_events r.state.events opens.first opens.begins)
      ∙ ap₂ (λ es o. unless_sent e es o) is (sym sent)

-- what becomes of an event of a room at an index
pub found_outcome : {writer : ℕ} {rs : List Room} {txns : TxnIndex} {key : Option TxnKey} {fresh : Option Standing} {spare : Type 0} {b : Rooms} → IsBook writer rs txns key fresh spare b
    → (view : Rooms) → b ≡ view → (e : Event) (old : List Room) → old ≡ rs → (i : ℕ) → IsRoomAt writer old e.room i → (d r : Room) → r ≡ get_or rs i d
    → (k : Option TxnKey) → txn_of k ≡ e.txn → (s : Option EventId) → s ≡ sent_at txns k → outcome view e ≡ unless_sent e r.state.events s
found_outcome {writer} {rs} held view is e old was i at d r here k named s sent =
    let opens : Opens (bare r) = subst (λ x. Opens (bare x)) (sym here) (opened_at d rs i (subst (λ (l : List Room). i < length l) was at.within) held.opens) in
    let events : room_events view e.room ≡ r.state.events =
    its_events held view is e.room old was r.state.events (at.holds d ∙ (ap (λ l. (get_or l i d).state.events) was ∙ ap (λ (x : Room). x.state.events) (sym here))) in
    let position : r.at ≡ e.room.at = ap (λ (x : Room). x.at) here ∙ (ap (λ (l : List Room). (get_or l i d).at) (sym was) ∙ at.here d) in
    outcome_found e view r opens position events s (sent ∙ its_sent held view is k e.txn named)

-- it was sent before
pub found_sent : {writer : ℕ} {rs : List Room} {txns : TxnIndex} {key : Option TxnKey} {fresh : Option Standing} {spare : Type 0} {b : Rooms} → IsBook writer rs txns key fresh spare b
    → (view : Rooms) → b ≡ view → (e : Event) (old : List Room) → old ≡ rs → (i : ℕ) → IsRoomAt writer old e.room i
    → (k : Option TxnKey) → txn_of k ≡ e.txn → (id : EventId) → Some id ≡ sent_at txns k → outcome view e ≡ Ok (admitted.Repeat id)
found_sent {rs = rs} held view is e old was i at k named id sent = found_outcome held view is e old was i at blank (get_or rs i blank) refl k named (Some id) sent where
  blank : Room
  blank = record { at = 0; state = record { events = []; ready = [] } }

-- ---- whether a room is there

by_events : (view : Rooms) (room : RoomId) (es : List Event) → room_events view room ≡ es → has_room view room ≡ (nat_lt 0 room.at && nat_lt 0 (length es))
by_events view room es is = ap (λ l. nat_lt 0 room.at && nat_lt 0 (length l)) is

never_both : (b : Bool) → (b && false) ≡ false
never_both true = refl
never_both false = refl

pub has_by_index : {writer : ℕ} {rs : List Room} {txns : TxnIndex} {key : Option TxnKey} {fresh : Option Standing} {spare : Type 0} {b : Rooms} → IsBook writer rs txns key fresh spare b
    → (view : Rooms) → b ≡ view → (room : RoomId) (old : List Room) → old ≡ rs → (o : Option ℕ)
    → MatchOption o (events_in writer (map bare old) room ≡ []) (λ i. IsRoomAt writer old room i) → is_some o ≡ has_room view room
has_by_index held view is room old was None h = sym (by_events view room [] (its_events held view is room old was [] h) ∙ never_both (nat_lt 0 room.at))
has_by_index {rs = rs} held view is room old was (Some i) at =
    let opens : Opens (bare (get_or rs i blank)) = opened_at blank rs i (subst (λ (l : List Room). i < length l) was at.within) held.opens in
    let here : (get_or rs i blank).at ≡ room.at = ap (λ (l : List Room). (get_or l i blank).at) (sym was) ∙ at.here blank in
    let events = its_events held view is room old was (get_or rs i blank).state.events (at.holds blank ∙ ap (λ l. (get_or l i blank).state.events) was) in
    sym
    (by_events view room (get_or rs i blank).state.events events
    ∙ ap₂ (λ a b. a && b) (lt-ltb 0 room.at (subst (λ n. 0 < n) here opens.placed)) (some_of (get_or rs i blank).state.events opens.first opens.begins))
  where
    blank : Room
    blank = record { at = 0; state = record { events = []; ready = [] } }

    some_of : (es : List Event) (v : Event) → es ≡ v ∷ drop 1 es → nat_lt 0 (length es) ≡ true
    some_of [] v e = absurd cc
    some_of (x ∷ xs) v e = lt-ltb 0 (length (x ∷ xs)) (omega arith)
