-- A forward page has what the picture's timeline has behind the place where it begins.
use Rattle.std.proofs.Common.{◌≡◌, ℕ, zero, suc, ◌≤◌, ◌<◌, ◌+◌, Bool, true, false, cond, ◌&&◌, List, [], ◌∷◌, ◌++◌, filter, length, map, min, take, Option, Some, None, nat_lt, nat_le, unwrap_or, refl, ap, sym, subst, ◌∙◌, arith, inl, inr}
use Rattle.std.proofs.lemmas.Bool.{cases_Bool, ltb-true}
use Rattle.std.proofs.lemmas.List.{length-append, length-map, length-take, take_all}
use Rattle.std.specs.List.{AllByRecursion}
use Rattle.mx_ids.specs.User.{server_of}
use Rattle.mx_ids.specs.declared.page_token.PageToken.{PageToken}
use Rattle.mx_window.specs.Windows.{Ascends, between}
use Rattle.mx_window.proofs.Each.{AllByRecursion-every, AllByRecursion-weaker, filter-same, filter-swap, list_any-map, list_any-same, map-map}
use Rattle.mx_window.proofs.Intervals.{Ascends-between, Ascends-filter, between-empty, between-inner, between-split, between-within}
use Rattle.mx_window.proofs.Sections.{Ascends-after}
use Rattle.mx_event.specs.Lawful.{of_room, same_room}
use Rattle.mx_event.specs.Redaction.{redacted}
use Rattle.mx_event.specs.Shown.{is_redacted, position_of, shown}
use Rattle.mx_event.specs.declared.event.Event.{Event}
use Rattle.mx_event.specs.declared.event.Shown.{Shown}
use Rattle.mx_folding.specs.Parts.{is_cons, is_sender, members_of, state_list}
use Rattle.mx_folding.specs.Rooms.{Room, key_is, wrote}
use Rattle.mx_folding.specs.Sections.{sendable}
use Rattle.mx_view.specs.Pictures.{room_at, timeline_shown}
use Rattle.mx_view.specs.Rooms.{Key, Sieve, room_of}
use Rattle.mx_view.specs.Shows.{shown_for}
use Rattle.mx_view.proofs.Pictured.{room_between}
use Rattle.mx_filter.specs.Sieves.{sieve_of}
use Rattle.mx_fold.specs.Lists.{events_in, fronts_of}
use Rattle.mx_fold.specs.Pictures.{picture}
use Rattle.mx_rest.proofs.Places.{ascends, whole}
use Rattle.mx_pager.specs.Asks.{high_of, low_of}
use Rattle.mx_pager.specs.Laws.{events_shown}
use Rattle.mx_pager.specs.Pages.{last_place, page_of, shown_at}
use Rattle.mx_pager.specs.declared.asked.PageAsk.{PageAsk}
use Rattle.mx_picture.specs.Forward.{ForwardPagesAre, IsForward, reached}

-- ---- the first few items of a window are those up to the last of them

last_low : (low : ℕ) (es : List Event) → Ascends position_of low es → low ≤ last_place low es
last_low low [] h = omega arith
last_low low (e ∷ es) h = let rest = last_low e.id.at es h.1 in let first : low < e.id.at = h.0 in omega (arith, rest, first)

-- of items that rise from a place on, a window that begins before it
from_place : (base low high : ℕ) (es : List Event) → low ≤ base → Ascends position_of base es → between position_of low high es ≡ between position_of base high es
from_place base low high es h up =
    filter-same (λ (e : Event). nat_lt low e.id.at && nat_le e.id.at high) (λ (e : Event). nat_lt base e.id.at && nat_le e.id.at high) es
    (AllByRecursion-weaker (λ (e : Event). base < e.id.at)
    (λ (e : Event). (nat_lt low e.id.at && nat_le e.id.at high) ≡ (nat_lt base e.id.at && nat_le e.id.at high))
    (λ e after. let first : nat_lt low e.id.at ≡ true = grind (arith, h, after) in let second : nat_lt base e.id.at ≡ true = grind (arith, after) in
    ap (λ b. b && nat_le e.id.at high) (first ∙ sym second)) es (Ascends-after position_of base es up))

firsts : (n low : ℕ) (es : List Event) → Ascends position_of low es → take n es ≡ between position_of low (last_place low (take n es)) es
firsts zero low es up = sym (between-empty position_of low low es (omega arith))
firsts (suc n) low [] up = refl
firsts (suc n) low (e ∷ es) up =
    let end : ℕ = last_place e.id.at (take n es) in
    let first : low < e.id.at = up.0 in
    let reach : e.id.at ≤ end = last_low e.id.at (take n es) (Ascends-take n e.id.at es up.1) in
    let passes : (nat_lt low e.id.at && nat_le e.id.at end) ≡ true = grind (arith, first, reach) in
    ap (λ l. e ∷ l) (firsts n e.id.at es up.1 ∙ sym (from_place e.id.at low end es (omega (arith, first)) up.1))
    ∙ sym (ap (λ b. cond b (e ∷ between position_of low end es) (between position_of low end es)) passes) where
      Ascends-take : (m base : ℕ) (vs : List Event) → Ascends position_of base vs → Ascends position_of base (take m vs)
      Ascends-take zero base vs h = tt
      Ascends-take (suc m) base [] h = tt
      Ascends-take (suc m) base (v ∷ vs) h = (h.0, Ascends-take m v.id.at vs h.1)

-- none of the first few is past the window
last_high : (n low high : ℕ) (es : List Event) → low ≤ high → AllByRecursion (λ (e : Event). (low < e.id.at) × (e.id.at ≤ high)) es
    → last_place low (take n es) ≤ high
last_high n low high es h all = up n low es h (AllByRecursion-weaker (λ (e : Event). (low < e.id.at) × (e.id.at ≤ high)) (λ (e : Event). e.id.at ≤ high) (λ e p. p.1) es all) where
  up : (m base : ℕ) (vs : List Event) → base ≤ high → AllByRecursion (λ (e : Event). e.id.at ≤ high) vs → last_place base (take m vs) ≤ high
  up zero base vs k all = k
  up (suc m) base [] k all = k
  up (suc m) base (v ∷ vs) k all = up m v.id.at vs all.0 all.1

cons_is : {A : Type 0} (xs : List A) → 0 < length xs → is_cons xs ≡ true
cons_is [] h = absurd (omega (arith, h))
cons_is (x ∷ xs) h = refl

-- ---- shown events stand where the events do

module _ (f : Sieve) (user : List ℕ) (es : List Event) (front : ℕ) where
  abbrev r : Room Event Key
  r = room_of f user es

  abbrev at_front : Event → Event
  at_front e = shown es e front

  stays : (e : Event) → position_of (at_front e) ≡ position_of e
  stays e = by (is_redacted es e front) where
    by : (b : Bool) → position_of (cond b (redacted e) e) ≡ position_of e
    by true = refl
    by false = refl

  between_shown : (low high : ℕ) (xs : List Event) → between position_of low high (map at_front xs) ≡ map at_front (between position_of low high xs)
  between_shown low high [] = refl
  between_shown low high (x ∷ xs) =
      ap (λ n. cond (nat_lt low n && nat_le n high) (at_front x ∷ between position_of low high (map at_front xs)) (between position_of low high (map at_front xs))) (stays x)
      ∙ by (nat_lt low x.id.at && nat_le x.id.at high) (between_shown low high xs) where
        by : (b : Bool) → between position_of low high (map at_front xs) ≡ map at_front (between position_of low high xs)
            → cond b (at_front x ∷ between position_of low high (map at_front xs)) (between position_of low high (map at_front xs))
            ≡ map at_front (cond b (x ∷ between position_of low high xs) (between position_of low high xs))
        by true rest = ap (λ l. at_front x ∷ l) rest
        by false rest = rest

  events_are : (xs : List Event) → events_shown (shown_at user es front xs) ≡ map at_front xs
  events_are xs = map-map (λ (s : Shown). s.event) (shown_for user es front) xs

  sender_stays : (k : Key) (e : Event) → wrote r k (at_front e) ≡ wrote r k e
  sender_stays k e = by (is_redacted es e front) where
    by : (b : Bool) → wrote r k (cond b (redacted e) e) ≡ wrote r k e
    by true = refl
    by false = refl

  senders_stay : (xs : List Event) (k : Key) → is_sender r (map at_front xs) k ≡ is_sender r xs k
  senders_stay xs k = list_any-map (wrote r k) at_front xs ∙ list_any-same (λ e. wrote r k (at_front e)) (wrote r k) (sender_stays k) xs

  members_stay : (p : ℕ) (xs : List Event) → members_of r es p (map at_front xs) ≡ members_of r es p xs
  members_stay p xs =
      filter-same (λ v. key_is r.member (r.key v) && key_is (is_sender r (map at_front xs)) (r.key v))
      (λ v. key_is r.member (r.key v) && key_is (is_sender r xs) (r.key v)) (state_list r es p)
      (AllByRecursion-every
      (λ v. (key_is r.member (r.key v) && key_is (is_sender r (map at_front xs)) (r.key v)) ≡ (key_is r.member (r.key v) && key_is (is_sender r xs) (r.key v)))
      (λ v. ap (λ b. key_is r.member (r.key v) && b) (at_key (r.key v))) (state_list r es p)) where
        at_key : (o : Option Key) → key_is (is_sender r (map at_front xs)) o ≡ key_is (is_sender r xs) o
        at_key None = refl
        at_key (Some k) = senders_stay xs k

  -- ---- a page between two bounds, over the room's list, whose events rise

  module _ (up : Ascends position_of 0 es) (upto : room_at es front ≡ es) (limit low high : ℕ) where
    abbrev seen : List Event
    seen = timeline_shown f user es front

    abbrev window : List Event
    window = sendable r es front low high

    abbrev sent : List Event
    sent = take limit window

    abbrev more : Bool
    more = nat_lt (length sent) (length window)

    abbrev end : Option PageToken
    end = cond more (Some (record { at = last_place low sent; e = front })) None

    window_is : window ≡ between position_of low high seen
    window_is =
        filter-swap (r.sends front) (λ (e : Event). nat_lt low e.id.at && nat_le e.id.at high) es
        ∙ ap (λ l. between position_of low high (filter (r.sends front) l)) (sym upto)

    rises : Ascends position_of 0 seen
    rises = subst (λ l. Ascends position_of 0 (filter (r.sends front) l)) (sym upto) (Ascends-filter position_of 0 (r.sends front) es up)

    rises_window : Ascends position_of low window
    rises_window = subst (λ l. Ascends position_of low l) (sym window_is) (Ascends-between position_of 0 low high seen rises)

    open_window : more ≡ true → low < high
    open_window h =
        elim (cases_Bool (nat_lt low high)) [
          | inl a ↦ ltb-true low high a
          | inr a ↦
              let back : high ≤ low = grind (arith, a) in
              let none : length window ≡ 0 = ap length (window_is ∙ between-empty position_of low high seen back) in
              absurd (omega (arith, ltb-true (length sent) (length window) h, none))
        ]

    end_high : more ≡ true → last_place low sent ≤ high
    end_high h =
        let wide : low < high = open_window h in
        last_high limit low high window (omega (arith, wide))
        (subst (λ l. AllByRecursion (λ (e : Event). (low < e.id.at) × (e.id.at ≤ high)) l) (sym window_is) (between-within position_of low high seen))

    sent_up_to : more ≡ true → sent ≡ between position_of low (last_place low sent) seen
    sent_up_to h =
        firsts limit low window rises_window
        ∙ ap (between position_of low (last_place low sent)) window_is
        ∙ between-inner position_of low (last_place low sent) low high seen (omega arith) (end_high h)

    is_whole : more ≡ false → sent ≡ between position_of low high seen
    is_whole h =
        let count : length sent ≡ min limit (length window) = length-take limit window in
        take_all limit window (grind (arith, h, count)) ∙ window_is

    goes_to : sent ≡ between position_of low (reached high end) seen
    goes_to = elim (cases_Bool more) [
      | inl a ↦ sent_up_to a ∙ ap (λ b. between position_of low (reached high (cond b (Some (record { at = last_place low sent; e = front })) None)) seen) (sym a)
      | inr a ↦ is_whole a ∙ ap (λ b. between position_of low (reached high (cond b (Some (record { at = last_place low sent; e = front })) None)) seen) (sym a)
    ]

    follows : more ≡ true → is_cons (between position_of (last_place low sent) high seen) ≡ true
    follows h =
        let place : ℕ = last_place low sent in
        let begins : low ≤ place = last_low low sent (subst (λ l. Ascends position_of low l) (sym (sent_up_to h)) (Ascends-between position_of 0 low place seen rises)) in
        let halves : window ≡ between position_of low place seen ++ between position_of place high seen =
        window_is ∙ between-split position_of low place high 0 seen rises begins (end_high h) in
        let counts : length window ≡ length (between position_of low place seen) + length (between position_of place high seen) =
        ap length halves ∙ length-append (between position_of low place seen) (between position_of place high seen) in
        let first : length sent ≡ length (between position_of low place seen) = ap length (sent_up_to h) in
        cons_is (between position_of place high seen) (omega (arith, counts, first, ltb-true (length sent) (length window) h))

    full : more ≡ true → length sent ≡ limit
    full h =
        let count : length sent ≡ min limit (length window) = length-take limit window in
        let less : length sent < length window = ltb-true (length sent) (length window) h in
        omega (arith, count, less)

    fits : length sent ≤ limit
    fits = let count : length sent ≡ min limit (length window) = length-take limit window in omega (arith, count)

    shown_count : length (shown_at user es front sent) ≡ length sent
    shown_count = length-map sent (shown_for user es front)

    ends_so : (b : Bool) (t : PageToken) → cond b (Some (record { at = last_place low sent; e = front })) None ≡ Some t
        → (b ≡ true) × (t ≡ record { at = last_place low sent; e = front })
    ends_so true t is = (refl, sym (some_is is)) where
      some_is : {A : Type 0} {x y : A} → ◌≡◌ {A = Option A} (Some x) (Some y) → x ≡ y
      some_is {x = x} is = ap (λ o. unwrap_or o x) is
    ends_so false t is = absurd cc

    ends_at : (t : PageToken) → end ≡ Some t
        → (t.e ≡ front) × (length (shown_at user es front sent) ≡ limit)
        × (is_cons (between position_of t.at high (map at_front seen)) ≡ true)
    ends_at t is =
        let so = ends_so more t is in (
          ap (λ (u : PageToken). u.e) so.1,
          shown_count ∙ full so.0,
          ap (λ (u : PageToken). is_cons (between position_of u.at high (map at_front seen))) so.1
              ∙ ap is_cons (between_shown (last_place low sent) high seen)
              ∙ still (between position_of (last_place low sent) high seen) (follows so.0),
        ) where
          still : (xs : List Event) → is_cons xs ≡ true → is_cons (map at_front xs) ≡ true
          still [] h = absurd cc
          still (x ∷ xs) h = refl

    members_so : (lazy : Bool) → events_shown (unwrap_or (cond lazy (Some (shown_at user es front (members_of r es front sent))) None) [])
        ≡ cond lazy (map at_front (members_of r es front (events_shown (shown_at user es front sent)))) []
    members_so true = events_are (members_of r es front sent) ∙ ap (map at_front) (sym (ap (members_of r es front) (events_are sent) ∙ members_stay front sent))
    members_so false = refl

    sent_so : events_shown (shown_at user es front sent) ≡ between position_of low (reached high end) (map at_front seen)
    sent_so = events_are sent ∙ ap (map at_front) goes_to ∙ sym (between_shown low (reached high end) seen)

-- ---- of the streams

pub forward_pages_are : {V D : Type 0} → ForwardPagesAre V D
forward_pages_are w l stands user name ask forward =
    let es : List Event = events_in l ask.room in
    let front : ℕ = length l.events in
    let f : Sieve = sieve_of (server_of user) ask.filter.now.selection ask.room in
    let up : Ascends position_of 0 es =
    Ascends-filter position_of 0 (λ (e : Event). same_room e.room ask.room) l.events (ascends position_of l.events stands) in
    let upto : room_at es front ≡ es =
    room_between es front up
    ∙ filter-swap (λ (e : Event). nat_lt 0 e.id.at && nat_le e.id.at front) (λ (e : Event). same_room e.room ask.room) l.events
    ∙ ap (of_room ask.room) (whole position_of l.events stands) in
    let literal : PageAsk = record { room = ask.room; backward = false; from = ask.from; to = ask.to; limit = ask.limit; filter = ask.filter } in
    let same : literal ≡ ask = λ i. record { room = ask.room; backward = sym forward i; from = ask.from; to = ask.to; limit = ask.limit; filter = ask.filter } in
    let low : ℕ = low_of front literal in
    let high : ℕ = high_of front literal in
    let said : IsForward (room_of f user es) es (map (λ e. shown es e front) (timeline_shown f user es front)) front literal (page_of l.events user literal) =
    record {
      start = refl;
      sent = sent_so f user es front up upto ask.limit low high;
      fits = subst (λ n. n ≤ ask.limit) (sym (shown_count f user es front up upto ask.limit low high)) (fits f user es front up upto ask.limit low high);
      ends = ends_at f user es front up upto ask.limit low high;
      members = members_so f user es front up upto ask.limit low high f.lazy;
    } in
    let named : IsForward (room_of (sieve_of w.name ask.filter.now.selection ask.room) user es) es
    (picture w l user ask.filter.now.selection (fronts_of l) ask.room).timeline front literal (page_of l.events user literal) =
    subst (λ (n : List ℕ). IsForward (room_of (sieve_of n ask.filter.now.selection ask.room) user es) es
    (map (λ e. shown es e front) (timeline_shown (sieve_of n ask.filter.now.selection ask.room) user es front)) front literal (page_of l.events user literal)) (sym name) said in
    subst (λ (a : PageAsk). IsForward (room_of (sieve_of w.name ask.filter.now.selection ask.room) user es) es
    (picture w l user ask.filter.now.selection (fronts_of l) ask.room).timeline front a (page_of l.events user a)) same named
