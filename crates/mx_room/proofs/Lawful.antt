-- The events of lawful stores, and what may follow them.
use Rattle.std.proofs.Common.{◌≡◌, ℕ, ◌+◌, ◌<◌, ◌≤◌, ◌==◌, ◌||◌, not, is_none, nat_lt, nat_eq, Bool, true, false, cond, List, [], ◌∷◌, ◌++◌, length, Option, Some, None, Ok, Err, refl, sym, ap, subst, ◌∙◌, arith, append_assoc, append-nil}
use Rattle.std.proofs.lemmas.Bool.{and_from, and_parts, eq-eqb, eqb-true, lt-ltb, ltb-true}
use Rattle.std.specs.List.{AllByRecursion}
use Rattle.mx_ids.specs.User.{server_of}
use Rattle.mx_ids.specs.declared.event_id.EventId.{EventId}
use Rattle.mx_ids.specs.declared.room_id.RoomId.{RoomId}
use Rattle.mx_core.specs.History.{items_of, keeps_law, own}
use Rattle.mx_core.specs.declared.history.Stored.{Stored}
use Rattle.mx_event.specs.Denied.{denied, first_broken, rules_for}
use Rattle.mx_event.specs.Drafts.{drafted}
use Rattle.mx_event.specs.Forms.{fits}
use Rattle.mx_event.specs.Kinds.{create_type, is_of}
use Rattle.mx_event.specs.Lawful.{are_lawful, has_target, is_lawful, lawful_store, of_room, placed_event, same_room}
use Rattle.mx_event.specs.declared.event.Event.{Event}
use Rattle.mx_room.specs.declared.admitted.Admitted.TheVariants as admitted
use Rattle.mx_room.specs.declared.admitted.Ready.{Ready}
use Rattle.mx_room.specs.declared.fault.RoomFault.TheVariants as faults
use Rattle.mx_room.specs.Admitting.{fault_of, has_room, outcome, sent_in, unless_refused, unless_sent}
use Rattle.mx_room.specs.Books.{Rooms, events_of, room_events}
use Rattle.mx_room.specs.Storing.{IsLawful, ReadyIsLawful}
use Rattle.mx_room.proofs.Taking.{items_more}

-- ---- a lawful event

pub record MayBe (k : ℕ) (before : List Event) (e : Event) : Type 0 where
  pub writes : e.room.writer ≡ k
  pub creates : is_of create_type e ≡ true → e.room.at ≡ e.id.at
  pub allowed : denied e (of_room e.room before) ≡ None

-- events, each lawful after those before it
abbrev pub Follow : ℕ → List Event → List Event → Type 0
Follow k before [] = Unit {0}
Follow k before (e ∷ es) = MayBe k before e × Follow k (before ++ e ∷ []) es

not_or : (t u : Bool) → (not t || u) ≡ true → t ≡ true → u ≡ true
not_or true u h is = h
not_or false u h is = absurd cc

none_of : {A : Type 0} (o : Option A) → is_none o ≡ true → o ≡ None
none_of None h = refl
none_of (Some x) h = absurd cc

may_be : (k : ℕ) (before : List Event) (at : ℕ) (e : Event) → is_lawful k before at e ≡ true → MayBe k before e
may_be k before at e h =
    let place = and_parts (e.id.at == at) _ h in
    let writer = and_parts (e.room.writer == k) _ place.1 in
    let create = and_parts (not (is_of create_type e) || (e.room.at == at)) _ writer.1 in
    let rules = and_parts (is_none (denied e (of_room e.room before))) _ create.1 in
    record {
      writes = eqb-true e.room.writer k writer.0;
      creates = λ is. eqb-true e.room.at at (not_or (is_of create_type e) (e.room.at == at) create.0 is) ∙ sym (eqb-true e.id.at at place.0);
      allowed = none_of (denied e (of_room e.room before)) rules.0;
    }

follow : (k : ℕ) (before : List Event) (at : ℕ) (es : List Event) → are_lawful k before at es ≡ true → Follow k before es
follow k before at [] h = tt
follow k before at (e ∷ es) h =
    let parts = and_parts (is_lawful k before at e) (are_lawful k (before ++ e ∷ []) (at + 1) es) h in
    (may_be k before at e parts.0, follow k (before ++ e ∷ []) (at + 1) es parts.1)

follow_both : (k : ℕ) (before es fs : List Event) → Follow k before es → Follow k (before ++ es) fs → Follow k before (es ++ fs)
follow_both k before [] fs h more = subst (λ l. Follow k l fs) (append-nil before) more
follow_both k before (e ∷ es) fs h more =
    (h.0, follow_both k (before ++ e ∷ []) es fs h.1 (subst (λ l. Follow k l fs) (sym (append_assoc before (e ∷ []) es)) more))

-- ---- the stores of one writer

own_length : (ss : List (Stored Event)) (k : ℕ) → length (own ss k) ≤ length ss
own_length [] k = omega arith
own_length (s ∷ ss) k = inside (nat_eq s.writer k) (own_length ss k) where
  inside : (b : Bool) → length (own ss k) ≤ length ss → length (cond b (s ∷ own ss k) (own ss k)) ≤ length (s ∷ ss)
  inside true h = omega (arith, h)
  inside false h = omega (arith, h)

-- the first store is the writer's, and so are the others
own_first : (s : Stored Event) (ss : List (Stored Event)) (k : ℕ) → own (s ∷ ss) k ≡ s ∷ ss → (s.writer ≡ k) × (own ss k ≡ ss)
own_first s ss k h = inside (nat_eq s.writer k) refl h where
  inside : (b : Bool) → nat_eq s.writer k ≡ b → cond b (s ∷ own ss k) (own ss k) ≡ s ∷ ss → (s.writer ≡ k) × (own ss k ≡ ss)
  inside true is h = (eqb-true s.writer k is, cc)
  inside false is h = absurd (omega (arith, own_length ss k, ap length h))

own_more : (before : List (Stored Event)) (s : Stored Event) (k : ℕ) → own before k ≡ before → s.writer ≡ k → own (before ++ s ∷ []) k ≡ before ++ s ∷ []
own_more [] s k h is = ap (λ b. cond b (s ∷ []) []) (eq-eqb s.writer k is)
own_more (t ∷ before) s k h is =
    let parts = own_first t before k h in
    ap (λ b. cond b (t ∷ own (before ++ s ∷ []) k) (own (before ++ s ∷ []) k)) (eq-eqb t.writer k parts.0) ∙ ap (λ l. t ∷ l) (own_more before s k parts.1 is)

follow_stores : (k : ℕ) (before ss : List (Stored Event)) → own before k ≡ before → own ss k ≡ ss → keeps_law lawful_store before ss ≡ true → Follow k (items_of before) (items_of ss)
follow_stores k before [] mine rest h = tt
follow_stores k before (s ∷ ss) mine rest h =
    let first = own_first s ss k rest in
    let parts = and_parts (lawful_store s.writer (own before s.writer) s.first s.items) (keeps_law lawful_store (before ++ s ∷ []) ss) h in
    let here : are_lawful k (items_of before) s.first s.items ≡ true =
    ap (λ l. are_lawful k (items_of l) s.first s.items) (sym mine)
    ∙ (ap (λ w. are_lawful w (items_of (own before w)) s.first s.items) (sym first.0) ∙ parts.0) in
    follow_both k (items_of before) s.items (items_of ss) (follow k (items_of before) s.first s.items here)
    (subst (λ l. Follow k l (items_of ss)) (items_more before s) (follow_stores k (before ++ s ∷ []) ss (own_more before s k mine first.0) first.1 parts.1))

pub events_follow : (b : Rooms) → IsLawful b → Follow b.writer [] (events_of b)
events_follow b h = follow_stores b.writer [] b.stores refl h.writer h.lawful

-- each event is in a room of the writer
all_write : (k : ℕ) (before es : List Event) → Follow k before es → AllByRecursion (λ (e : Event). e.room.writer ≡ k) es
all_write k before [] h = tt
all_write k before (e ∷ es) h = (h.0.writes, all_write k (before ++ e ∷ []) es h.1)

-- a room that has events is that of one of them
pub room_of : (P : Event → Type 0) (room : RoomId) (es : List Event) → AllByRecursion P es → 0 < length (of_room room es) → (e : Event) × (P e × (same_room e.room room ≡ true))
room_of P room [] all some = absurd (omega (arith, some))
room_of P room (e ∷ es) all some = inside (same_room e.room room) refl some (room_of P room es all.1) where
  inside : (b : Bool) → same_room e.room room ≡ b → 0 < length (cond b (e ∷ of_room room es) (of_room room es))
      → (0 < length (of_room room es) → (v : Event) × (P v × (same_room v.room room ≡ true))) → (v : Event) × (P v × (same_room v.room room ≡ true))
  inside true is h rest = (e, (all.0, is))
  inside false is h rest = rest h

-- ---- an event that is ready

-- what follows from an answer that an event is ready
record IsReady (b : Rooms) (e : Event) (r : Ready) : Type 0 where
  room : has_room b e.room ≡ true
  target : has_target e (room_events b e.room) ≡ true
  allowed : denied e (room_events b e.room) ≡ None
  same : r.event ≡ e

is_ready : (b : Rooms) (e : Event) (r : Ready) → outcome b e ≡ Ok (admitted.Ready r) → IsReady b e r
is_ready b e r h = by_room (has_room b e.room) refl h where
  es : List Event
  es = room_events b e.room

  by_rule : has_room b e.room ≡ true → has_target e es ≡ true → (o : Option ℕ) → denied e es ≡ o → unless_refused e (fault_of o) ≡ Ok (admitted.Ready r) → IsReady b e r
  by_rule room target None is h = record { room = room; target = target; allowed = is; same = cc }
  by_rule room target (Some rule) is h = absurd cc

  by_target : has_room b e.room ≡ true → (t : Bool) → has_target e es ≡ t → unless_refused e (cond t (fault_of (denied e es)) (Some faults.NoTarget)) ≡ Ok (admitted.Ready r) → IsReady b e r
  by_target room true is h = by_rule room is (denied e es) refl h
  by_target room false is h = absurd cc

  by_size : has_room b e.room ≡ true → (t : Bool) → unless_refused e (cond t (cond (has_target e es) (fault_of (denied e es)) (Some faults.NoTarget)) (Some faults.TooLarge)) ≡ Ok (admitted.Ready r) → IsReady b e r
  by_size room true h = by_target room (has_target e es) refl h
  by_size room false h = absurd cc

  by_txn : has_room b e.room ≡ true → (o : Option EventId) → unless_sent e es o ≡ Ok (admitted.Ready r) → IsReady b e r
  by_txn room None h = by_size room (fits (server_of e.sender) e) h
  by_txn room (Some id) h = absurd cc

  by_room : (t : Bool) → has_room b e.room ≡ t → cond t (unless_sent e es (sent_in e.txn (events_of b))) (Err faults.NoRoom) ≡ Ok (admitted.Ready r) → IsReady b e r
  by_room true is h = by_txn is (sent_in e.txn (events_of b)) h
  by_room false is h = absurd cc

-- no second create event is allowed
pub no_create : (e : Event) (es : List Event) → denied e es ≡ None → 0 < length es → is_of create_type e ≡ false
no_create e es allowed some = inside (is_of create_type e) refl where
  inside : (t : Bool) → is_of create_type e ≡ t → t ≡ false
  inside true is =
      let refused : denied e es ≡ Some 1 =
      ap (λ t. first_broken ((1, cond t (nat_lt 0 (length es)) (length es == 0)) ∷ rules_for e es)) is
      ∙ ap (λ t. first_broken ((1, t) ∷ rules_for e es)) (lt-ltb 0 (length es) some) in
      absurd cc
  inside false is = refl

-- an event with a room keeps it where it is placed
kept_room : (e : Event) (first at : ℕ) → 0 < e.room.at → (placed_event e first at).room ≡ e.room
kept_room e first at placed = inside (e.room.at == 0) refl where
  inside : (t : Bool) → (e.room.at == 0) ≡ t → cond t (record { writer = e.room.writer; at = first }) e.room ≡ e.room
  inside true is = absurd (omega (arith, placed, eqb-true e.room.at 0 is))
  inside false is = refl

pub ready_lawful : ReadyIsLawful
ready_lawful b d r first lane h =
    let e : Event = drafted d in
    let ready : IsReady b e r = is_ready b e r h in
    let room = and_parts (nat_lt 0 e.room.at) (nat_lt 0 (length (room_events b e.room))) ready.room in
    let some : 0 < length (room_events b e.room) = ltb-true 0 (length (room_events b e.room)) room.1 in
    let one = room_of (λ (v : Event). v.room.writer ≡ b.writer) e.room (events_of b) (all_write b.writer [] (events_of b) (events_follow b lane)) some in
    let same = and_parts (one.0.room.writer == e.room.writer) (one.0.room.at == e.room.at) one.1.1 in
    let writes : e.room.writer ≡ b.writer = sym (eqb-true one.0.room.writer e.room.writer same.0) ∙ one.1.0 in
    let kept : (placed_event e first first).room ≡ e.room = kept_room e first first (ltb-true 0 e.room.at room.0) in
    subst (λ (v : Event). lawful_store b.writer b.stores first (placed_event v first first ∷ []) ≡ true) (sym ready.same)
    (and_from (is_lawful b.writer (events_of b) first (placed_event e first first)) true
    (lawful_at e (placed_event e first first).room kept writes (no_create e (room_events b e.room) ready.allowed some) ready.allowed ready.target) refl) where
      lawful_at : (e : Event) (at : RoomId) → at ≡ e.room → e.room.writer ≡ b.writer → is_of create_type e ≡ false → denied e (room_events b e.room) ≡ None → has_target e (room_events b e.room) ≡ true
          → is_lawful b.writer (events_of b) first (record e { id = record { at = first }; room = at }) ≡ true
      lawful_at e at is writes other allowed target =
          subst (λ (room : RoomId). is_lawful b.writer (events_of b) first (record e { id = record { at = first }; room = room }) ≡ true) (sym is)
          (and_from (first == first) _ (eq-eqb first first refl)
          (and_from (e.room.writer == b.writer) _ (eq-eqb e.room.writer b.writer writes)
          (and_from (not (is_of create_type e) || (e.room.at == first)) _ (ap (λ t. not t || (e.room.at == first)) other)
          (and_from (is_none (denied e (room_events b e.room))) _ (ap is_none allowed) target))))
