-- How events are shown by their first redaction, and which events are found at their positions.
use Rattle.std.proofs.Common.{◌≡◌, ℕ, ◌-◌, Bool, true, false, cond, ◌&&◌, ◌||◌, nat_le, nat_lt, length, List, [], ◌∷◌, map, filter, Option, Some, None, option_map, refl, ap, ap₂, subst, sym, ◌∙◌}
use Rattle.std.proofs.lemmas.Option.{same_Some}
use Rattle.std.specs.Borrow.{Bor}
use Rattle.std.specs.List.{list_any, AllByRecursion}
use Rattle.std.specs.Option.{option_copied}
use Rattle.std.specs.Prelude.{IfSome}
use Rattle.mx_ids.specs.declared.room_id.RoomId.{RoomId}
use Rattle.mx_window.specs.Lasts.{current, keep_if}
use Rattle.mx_window.specs.Windows.{between, stand_from}
use Rattle.mx_window.proofs.Each.{AllByRecursion-both, AllByRecursion-filter, AllByRecursion-passed, map-map, map-same}
use Rattle.mx_window.proofs.Lasts.{AllByRecursion-current}
use Rattle.mx_window.proofs.Sections.{AllByRecursion-drop}
use Rattle.mx_event.specs.Lawful.{of_room, same_room}
use Rattle.mx_event.specs.Redaction.{redacted}
use Rattle.mx_event.specs.Shown.{first_of, names, position_of, redactions, shown}
use Rattle.mx_event.specs.Valid.{IsValid}
use Rattle.mx_event.specs.declared.event.Event.{Event}
use Rattle.mx_event.specs.declared.event.Shown.{Shown}
use Rattle.mx_event.proofs.Lawfully.{same_is}
use Rattle.mx_folding.specs.Rooms.{is_kept, is_state, sets_same}
use Rattle.mx_folding.specs.Sections.{break_at, sendable}
use Rattle.mx_folding.specs.Parts.{state_list}
use Rattle.mx_folding.specs.Redactions as fold
use Rattle.mx_folding.specs.Visible.{is_visible}
use Rattle.mx_snapshot.specs.Events.{first_redaction}
use Rattle.mx_snapshot.specs.FirstRedactions.{FirstsAreOfRoom}
use Rattle.mx_snapshot.specs.Looks.{at_position}
use Rattle.mx_parts.proofs.Placed.{all_found}
use Rattle.mx_view.specs.Readings.{viewer_of}
use Rattle.mx_view.specs.Shows.{shown_for}
use Rattle.mx_view.proofs.Pictured.{same_shown}
use Rattle.mx_parts.specs.Readings.{events_of, front_of, room_in, sieve}
use Rattle.mx_parts.specs.Sections.{AreListed, IsListed, section_of, state_part, is_limited, cut_of, state_of}
use Rattle.mx_parts.specs.Shows.{PartsAre, all_shown}
use Rattle.mx_parts.specs.declared.reading.Reading.{Reading}
use Rattle.mx_parts.specs.declared.window.Window.{Window}

-- ---- the first redaction

none_any : (test : Event → Bool) (xs : List Event) → first_of (filter test xs) ≡ None → list_any test xs ≡ false
none_any test [] is = refl
none_any test (x ∷ xs) is = by (test x) (λ h. none_any test xs h) is where
  by : (b : Bool) → (first_of (filter test xs) ≡ None → list_any test xs ≡ false) → first_of (cond b (x ∷ filter test xs) (filter test xs)) ≡ None → (b || list_any test xs) ≡ false
  by true rest h = absurd cc
  by false rest h = rest h

some_any : (test : Event → Bool) (xs : List Event) (e : Event) → first_of (filter test xs) ≡ Some e → list_any test xs ≡ true
some_any test [] e is = absurd cc
some_any test (x ∷ xs) e is = by (test x) (λ h. some_any test xs e h) is where
  by : (b : Bool) → (first_of (filter test xs) ≡ Some e → list_any test xs ≡ true) → first_of (cond b (x ∷ filter test xs) (filter test xs)) ≡ Some e → (b || list_any test xs) ≡ true
  by true rest h = refl
  by false rest h = rest h

first_among : (P : Event → Type 0) (xs : List Event) (e : Event) → AllByRecursion P xs → first_of xs ≡ Some e → P e
first_among P [] e all is = absurd cc
first_among P (x ∷ xs) e all is = subst P (same_Some x e is) all.0

module _ (es : List Event) (front : ℕ) (v : Event) where
  pub redacted_is : (by : Event) → first_of (redactions es v front) ≡ Some by → redacted v ≡ shown es v front
  redacted_is by is = sym (ap (λ b. cond b (redacted v) v) (some_any (λ e. names e v.id.at) (between position_of v.id.at front es) by is))

  pub plain_is : first_of (redactions es v front) ≡ None → v ≡ shown es v front
  plain_is is = sym (ap (λ b. cond b (redacted v) v) (none_any (λ e. names e v.id.at) (between position_of v.id.at front es) is))

  seen_first : (user : List ℕ) (by : Event)
      → cond (is_visible (viewer_of user) es front by) (Some (shown es by front)) None
      ≡ option_map (λ e. shown es e front) (cond (is_visible (viewer_of user) es front by) (Some by) None)
  seen_first user by = at (is_visible (viewer_of user) es front by) where
    at : (b : Bool) → ◌≡◌ {A = Option Event} (cond b (Some (shown es by front)) None) (option_map (λ e. shown es e front) (cond b (Some by) None))
    at true = refl
    at false = refl

  pub shown_redacted : (user : List ℕ) (by e : Event) (because : Option Event) → first_of (redactions es v front) ≡ Some by → e ≡ redacted v
      → because ≡ cond (is_visible (viewer_of user) es front by) (Some (shown es by front)) None
      → ◌≡◌ {A = Shown} (record { event = e; because = because }) (shown_for user es front v)
  shown_redacted user by e because is same seen =
      let event = same ∙ redacted_is by is in
      let told = seen ∙ seen_first user by ∙ sym (ap (λ o. option_map (λ d. shown es d front) (keep_if (is_visible (viewer_of user) es front) o)) is) in
      λ i. record { event = event i; because = told i }

  pub shown_plain : (user : List ℕ) (e : Event) → first_of (redactions es v front) ≡ None → e ≡ v
      → ◌≡◌ {A = Shown} (record { event = e; because = None }) (shown_for user es front v)
  shown_plain user e is same =
      let event = same ∙ plain_is is in
      let told = sym (ap (λ o. option_map (λ d. shown es d front) (keep_if (is_visible (viewer_of user) es front) o)) is) in
      λ i. record { event = event i; because = told i }

-- ---- what is listed

module _ (v : Reading) (placed : stand_from position_of 1 v.events.now ≡ true) where
  pub room_listed : AllByRecursion (IsListed v) (events_of v)
  room_listed =
      AllByRecursion-both (λ (e : Event). at_position v.events.now e.id.at ≡ Some e) (λ (e : Event). same_room e.room v.room.now ≡ true) (events_of v)
      (AllByRecursion-filter (λ (e : Event). at_position v.events.now e.id.at ≡ Some e) (λ (e : Event). same_room e.room v.room.now) v.events.now (all_found v.events.now placed))
      (AllByRecursion-passed (λ (e : Event). same_room e.room v.room.now) v.events.now)

  pub redactions_listed : (e : Event) (front : ℕ) → AllByRecursion (IsListed v) (redactions (events_of v) e front)
  redactions_listed e front =
      AllByRecursion-filter (IsListed v) (λ d. names d e.id.at) (between position_of e.id.at front (events_of v))
      (AllByRecursion-filter (IsListed v) (λ (d : Event). nat_lt e.id.at d.id.at && nat_le d.id.at front) (events_of v) room_listed)

  pub sendable_listed : (low high : ℕ) → AllByRecursion (IsListed v) (sendable (room_in v) (events_of v) (front_of v) low high)
  sendable_listed low high =
      AllByRecursion-filter (IsListed v) ((room_in v).sends (front_of v)) (between position_of low high (events_of v))
      (AllByRecursion-filter (IsListed v) (λ (d : Event). nat_lt low d.id.at && nat_le d.id.at high) (events_of v) room_listed)

  pub section_listed : (w : Window) → AreListed v (section_of v w)
  section_listed w =
      let low = cond w.after w.low (break_at (room_in v) (events_of v) (front_of v) w.low w.high) in
      AllByRecursion-drop (IsListed v) (length (sendable (room_in v) (events_of v) (front_of v) low w.high) - w.limit)
      (sendable (room_in v) (events_of v) (front_of v) low w.high) (sendable_listed low w.high)

  pub states_listed : (q : ℕ) → AreListed v (state_list (room_in v) (events_of v) q)
  states_listed q =
      AllByRecursion-filter (IsListed v) (is_state (room_in v)) (current (sets_same (room_in v)) (between position_of 0 q (events_of v)))
      (AllByRecursion-current (IsListed v) (sets_same (room_in v)) (between position_of 0 q (events_of v))
      (AllByRecursion-filter (IsListed v) (λ (d : Event). nat_lt 0 d.id.at && nat_le d.id.at q) (events_of v) room_listed))

  pub state_listed : (pick : Event → Bool) (q : ℕ) → AreListed v (state_part v pick q)
  state_listed pick q =
      AllByRecursion-filter (IsListed v) pick (filter (is_kept (room_in v)) (state_list (room_in v) (events_of v) q))
      (AllByRecursion-filter (IsListed v) (is_kept (room_in v)) (state_list (room_in v) (events_of v) q) (states_listed q))

-- the room of a listed event
pub own_room : (v : Reading) (e : Event) → IsListed v e → of_room e.room v.events.now ≡ events_of v
own_room v e is = ap (λ room. of_room room v.events.now) (same_is e.room v.room.now is.1)

-- what the events' index finds is the first redaction
pub first_is : FirstsAreOfRoom → (v : Reading) → stand_from position_of 1 v.events.now ≡ true → ((room : RoomId) → IsValid (of_room room v.events.now))
    → (e : Event) → IsListed v e → (front : ℕ) → front ≡ front_of v
    → keep_if (λ (d : Event). nat_le d.id.at front) (first_redaction v.events.now e.id.at) ≡ first_of (redactions (events_of v) e (front_of v))
first_is firsts v placed valid e is front here =
    firsts v.events.now placed valid e is.0 front
    ∙ ap₂ (λ es f. first_of (redactions es e f)) (own_room v e is) here

pub first_listed : (v : Reading) → stand_from position_of 1 v.events.now ≡ true → (e : Event) (o : Option (Bor Event))
    → option_copied o ≡ first_of (redactions (events_of v) e (front_of v)) → IfSome o (λ by. IsListed v by.now)
first_listed v placed e None is = tt
first_listed v placed e (Some by) is = first_among (IsListed v) (redactions (events_of v) e (front_of v)) by.now (redactions_listed v placed e (front_of v)) (sym is)

-- ---- the law

events_shown : (v : Reading) (es : List Event) → map (λ (s : Shown). s.event) (all_shown v es) ≡ map (fold.shown (room_in v) (events_of v) (front_of v)) es
events_shown v es =
    map-map (λ (s : Shown). s.event) (shown_for v.user.now (events_of v) (front_of v)) es
    ∙ map-same (λ e. shown (events_of v) e (front_of v)) (fold.shown (room_in v) (events_of v) (front_of v)) (same_shown (sieve v) v.user.now (events_of v) (front_of v)) es

pub parts_are : PartsAre
parts_are v w pick =
    λ i. record {
      limited = is_limited v w;
      cut = cut_of v w;
      state = events_shown v (state_of v w pick) i;
      sent = events_shown v (section_of v w) i;
    }
