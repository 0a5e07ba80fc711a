-- A reply reads no more of contents than what is read of the room's events.
use Rattle.std.proofs.Common.{◌≡◌, ℕ, ◌-◌, ◌≤◌, Bool, true, false, cond, not, ◌&&◌, ◌||◌, nat_lt, nat_le, List, [], ◌∷◌, Option, Some, None, option_map, option_and_then, unwrap_or, refl, ap, ap₂, sym, ◌∙◌, append-nil, arith}
use Rattle.std.specs.List.{list_any, AllByRecursion}
use Rattle.std.specs.Option.{option_or}
use Rattle.mx_window.specs.Windows.{between}
use Rattle.mx_window.specs.Lasts.{last_of}
use Rattle.mx_window.proofs.Each.{AllByRecursion-weaker, AllByRecursion-filter, AllByRecursion-every, map-same}
use Rattle.mx_window.proofs.Lasts.{last_of-some}
use Rattle.mx_ids.specs.declared.sync_token.SyncToken.{SyncToken}
use Rattle.mx_event.specs.Shown.{position_of}
use Rattle.mx_event.specs.declared.event.Event.{Event}
use Rattle.mx_folding.specs.Parts.{Part, state_part, part_of, has_some, is_sender, picks, picks_new}
use Rattle.mx_folding.specs.Redactions.{is_some_of, shown}
use Rattle.mx_folding.specs.Rooms.{Room, key_is}
use Rattle.mx_folding.specs.Sections.{window, section, cut}
use Rattle.mx_folding.specs.Stories.{position, Rest, Story, own_at, Nothing, Anew, More, Sync, told_by, told_of, told, IsNext}
use Rattle.mx_folding.specs.Visible.{Membership, Join, Invite, Leave, Ban, SharedSince, Viewer, is_join, is_allowed, is_visible, stayed_joined}
use Rattle.mx_folding.proofs.Longer.{same_part}
use Rattle.mx_view.specs.Readings.{Contents, is_own, is_setting, viewer_by}
use Rattle.mx_view.specs.Reads.{ReadAlike, SameRead}
use Rattle.mx_view.specs.Rooms.{Key, Sieve, story_by}
use Rattle.mx_view.specs.Tokens.{tokens}
use Rattle.mx_view.proofs.Orders.{are_tokens}

any_alike : {E : Type 0} (p q : E → Bool) (xs : List E) → AllByRecursion (λ e. p e ≡ q e) xs → list_any p xs ≡ list_any q xs
any_alike p q [] h = refl
any_alike p q (x ∷ xs) h = ap₂ (λ a b. a || b) h.0 (any_alike p q xs h.1)

-- what is read of the last one that passes
map_alike : {E A : Type 0} (g k : E → A) (test : E → Bool) (xs : List E) → AllByRecursion (λ e. g e ≡ k e) xs
    → option_map g (last_of test xs) ≡ option_map k (last_of test xs)
map_alike g k test [] h = refl
map_alike {E = E} {A = A} g k test (x ∷ xs) h = by (last_of test xs) (test x) (map_alike g k test xs h.1) where
  by : (o : Option E) (b : Bool) → option_map g o ≡ option_map k o → option_map g (option_or o (cond b (Some x) None))
      ≡ option_map k (option_or o (cond b (Some x) None))
  by (Some y) b same = same
  by None true same = ap Some h.0
  by None false same = refl

then_alike : {E A : Type 0} (g k : E → Option A) (test : E → Bool) (xs : List E) → AllByRecursion (λ e. g e ≡ k e) xs
    → option_and_then g (last_of test xs) ≡ option_and_then k (last_of test xs)
then_alike g k test [] h = refl
then_alike {E = E} {A = A} g k test (x ∷ xs) h = by (last_of test xs) (test x) (then_alike g k test xs h.1) where
  by : (o : Option E) (b : Bool) → option_and_then g o ≡ option_and_then k o → option_and_then g (option_or o (cond b (Some x) None))
      ≡ option_and_then k (option_or o (cond b (Some x) None))
  by (Some y) b same = same
  by None true same = h.0
  by None false same = refl

module _ (c d : Contents) (es : List Event) (alike : AllByRecursion (ReadAlike c d) es) (user : List ℕ) where
  abbrev v : Viewer Event
  v = viewer_by c user

  abbrev w : Viewer Event
  w = viewer_by d user

  members : (low high : ℕ) → AllByRecursion (λ e. c.membership e ≡ d.membership e) (between position_of low high es)
  members low high =
      AllByRecursion-filter (λ e. c.membership e ≡ d.membership e) (λ (e : Event). nat_lt low e.id.at && nat_le e.id.at high) es
      (AllByRecursion-weaker (ReadAlike c d) (λ e. c.membership e ≡ d.membership e) (λ e h. h.membership) es alike)

  settings : (low high : ℕ) → AllByRecursion (λ e. c.setting e ≡ d.setting e) (between position_of low high es)
  settings low high =
      AllByRecursion-filter (λ e. c.setting e ≡ d.setting e) (λ (e : Event). nat_lt low e.id.at && nat_le e.id.at high) es
      (AllByRecursion-weaker (ReadAlike c d) (λ e. c.setting e ≡ d.setting e) (λ e h. h.setting) es alike)

  named : (low high : ℕ) → AllByRecursion (λ e. c.names e ≡ d.names e) (between position_of low high es)
  named low high =
      AllByRecursion-filter (λ e. c.names e ≡ d.names e) (λ (e : Event). nat_lt low e.id.at && nat_le e.id.at high) es
      (AllByRecursion-weaker (ReadAlike c d) (λ e. c.names e ≡ d.names e) (λ e h. h.names) es alike)

  joined_alike : (p : ℕ) → option_and_then c.membership (last_of (is_own user) (between position_of 0 p es))
      ≡ option_and_then d.membership (last_of (is_own user) (between position_of 0 p es))
  joined_alike p = then_alike c.membership d.membership (is_own user) (between position_of 0 p es) (members 0 p)

  set_alike : (p : ℕ) → option_map c.setting (last_of is_setting (between position_of 0 p es))
      ≡ option_map d.setting (last_of is_setting (between position_of 0 p es))
  set_alike p = map_alike c.setting d.setting is_setting (between position_of 0 p es) (settings 0 p)

  later_alike : (low high : ℕ) → list_any (λ e. is_own user e && is_join (c.membership e)) (between position_of low high es)
      ≡ list_any (λ e. is_own user e && is_join (d.membership e)) (between position_of low high es)
  later_alike low high =
      any_alike (λ e. is_own user e && is_join (c.membership e)) (λ e. is_own user e && is_join (d.membership e)) (between position_of low high es)
      (AllByRecursion-weaker (λ e. c.membership e ≡ d.membership e) (λ e. (is_own user e && is_join (c.membership e))
      ≡ (is_own user e && is_join (d.membership e)))
      (λ e h. ap (λ m. is_own user e && is_join m) h) (between position_of low high es) (members low high))

  stays_alike : (low high : ℕ) → stayed_joined v es low high ≡ stayed_joined w es low high
  stays_alike low high =
      ap₂ (λ a b. is_join a && not b) (joined_alike low)
      (any_alike (λ e. is_own user e && not (is_join (c.membership e))) (λ e. is_own user e && not (is_join (d.membership e))) (between position_of low high es)
      (AllByRecursion-weaker (λ e. c.membership e ≡ d.membership e) (λ e. (is_own user e && not (is_join (c.membership e)))
      ≡ (is_own user e && not (is_join (d.membership e))))
      (λ e h. ap (λ m. is_own user e && not (is_join m)) h) (between position_of low high es) (members low high)))

  seen_alike : (front : ℕ) (e : Event) → is_visible v es front e ≡ is_visible w es front e
  seen_alike front e =
      let p : ℕ = e.id.at in
      let later = later_alike p front in
      let at = ap₂ (λ s m. is_allowed (unwrap_or s SharedSince) m) (set_alike p) (joined_alike p) in
      let before = ap₂ (λ s m. is_allowed (unwrap_or s SharedSince) m) (set_alike (p - 1)) (joined_alike (p - 1)) in
      λ i. at i (later i) || ((is_own user e || is_setting e) && before i (later i))

  module _ {V D : Type 0} (same : c.red ≡ d.red) (f : Sieve) (picked : Bool) (rest : Rest V D SyncToken) (j : SyncToken) where
    abbrev g : Story Event Key V D SyncToken
    g = story_by c f picked user es rest

    abbrev k : Story Event Key V D SyncToken
    k = story_by d f picked user es rest

    -- the second room, judged and read as the first
    abbrev judged : Room Event Key
    judged = record k.room { sends = λ front e. g.room.sends front e; stayed = λ b t. g.room.stayed b t }

    shown_alike : (e : Event) → shown g.room es j.e e ≡ shown judged es j.e e
    shown_alike e =
        let by = any_alike (λ x. is_some_of (c.names x) e.id.at) (λ x. is_some_of (d.names x) e.id.at) (between position_of e.id.at j.e es)
        (AllByRecursion-weaker (λ x. c.names x ≡ d.names x) (λ x. is_some_of (c.names x) e.id.at ≡ is_some_of (d.names x) e.id.at)
        (λ x h. ap (λ o. is_some_of o e.id.at) h) (between position_of e.id.at j.e es) (named e.id.at j.e)) in
        λ i. cond (by i) (same i e) e

    part_alike : (after : Bool) (limit s : ℕ) (pick : List Event → Event → Bool) → s ≤ j.e
        → part_of g.room es j.e (window after limit s j.e) pick ≡ part_of k.room es j.e (window after limit s j.e) pick
    part_alike after limit s pick up =
        let old : Part Event = part_of g.room es j.e (window after limit s j.e) pick in
        let sec : List Event = section judged es j.e (window after limit s j.e) in
        let chosen : List Event = state_part judged es (pick sec) (cond after j.e (cut judged es j.e (window after limit s j.e))) in
        let state = map-same (shown g.room es j.e) (shown judged es j.e) shown_alike in
        (λ i. record { limited = old.limited; cut = old.cut; state = state chosen i; sent = state sec i })
        ∙ ap (λ l. part_of judged l j.e (window after limit s j.e) pick) (sym (append-nil es))
        ∙ same_part k.room (λ front e. g.room.sends front e) (λ b t. g.room.stayed b t) es [] after limit j.e s j.e pick up (omega arith) tt
        (AllByRecursion-every (λ e. g.room.sends j.e e ≡ k.room.sends j.e e) (λ e. ap (λ b. b && f.passes e) (seen_alike j.e e)) (between position_of 0 j.e es))

    by_alike : (since : Option SyncToken) (leave : Bool) (anew more : Part Event) (e : Event) (own : Option Membership)
        → told_by tokens g since j leave anew more e own ≡ told_by tokens k since j leave anew more e own
    by_alike since leave anew more e None = refl
    by_alike None leave anew more e (Some Join) = refl
    by_alike (Some i) leave anew more e (Some Join) =
        ap (λ m. cond (is_join m) (cond (has_some more || rest.differs i j) (More more (rest.delta i j)) Nothing) (Anew anew (rest.view j))) (joined_alike i.e)
    by_alike None leave anew more e (Some Invite) = refl
    by_alike (Some i) leave anew more e (Some Invite) = refl
    by_alike None leave anew more e (Some Leave) = refl
    by_alike (Some i) leave anew more e (Some Leave) = refl
    by_alike None leave anew more e (Some Ban) = refl
    by_alike (Some i) leave anew more e (Some Ban) = refl

    of_alike : (since : Option SyncToken) (leave : Bool) (anew more : Part Event) (own : Option Event)
        → ((e : Event) → ◌≡◌ {A = Option Event} own (Some e) → c.membership e ≡ d.membership e)
        → told_of tokens g since j leave anew more own ≡ told_of tokens k since j leave anew more own
    of_alike since leave anew more None h = refl
    of_alike since leave anew more (Some e) h = by_alike since leave anew more e (c.membership e) ∙ ap (told_by tokens k since j leave anew more e) (h e refl)

    told_alike : (ask : Sync) (heroes : Key → Bool) (b : ℕ) (since : Option SyncToken) → position tokens since ≤ j.e
        → told tokens g ask heroes b since j ≡ told tokens k ask heroes b since j
    told_alike ask heroes b since up =
        let s : ℕ = position tokens since in
        let from : ℕ = cond ask.full 0 s in
        let anew = part_alike ask.after ask.limit 0 (picks_new k.room heroes) (omega arith) in
        let pick_by : Bool → List Event → Event → Bool = λ stayed sent e.
        nat_lt from e.id.at || (f.lazy
        && (key_is k.room.member (k.room.key e) && ((key_is (is_sender k.room sent) (k.room.key e) || key_is heroes (k.room.key e))
        && not (not ask.redundant && (nat_le e.id.at s && (stayed && nat_lt b e.id.at)))))) in
        let more = part_alike ask.after ask.limit s (pick_by (g.room.stayed b s)) up
        ∙ ap (λ t. part_of k.room es j.e (window ask.after ask.limit s j.e) (pick_by t)) (stays_alike b s) in
        let own = own_at k j.e in
        ap (λ t. cond picked t Nothing)
        (ap₂ (λ x y. told_of tokens g since j ask.leave x y own) anew more
        ∙ of_alike since ask.leave (part_of k.room es j.e (window ask.after ask.limit 0 j.e) (picks_new k.room heroes))
        (part_of k.room es j.e (window ask.after ask.limit s j.e) (picks k.room ask.redundant b s from heroes)) own
        (λ e is. (last_of-some (λ (x : Event). c.membership x ≡ d.membership x) (is_own user) (between position_of 0 j.e es) e (members 0 j.e) is).1))

next_up : (since : Option SyncToken) (j : SyncToken) → IsNext tokens since j → position tokens since ≤ j.e
next_up None j next = omega arith
next_up (Some i) j next = are_tokens.rises i j next

pub same_read : {V D : Type 0} → SameRead V D
same_read c d same es alike f picked user rest ask heroes b since j next =
    told_alike c d es alike user same f picked rest j ask heroes b since (next_up since j next)
