-- What a client holds of a room after a reply, by the user's memberships at the two tokens.
use Rattle.std.proofs.Common.{◌≡◌, ℕ, ◌<◌, ◌≤◌, Bool, true, false, cond, ◌&&◌, ◌||◌, nat_lt, nat_le, Option, Some, None, is_some, refl, ap, sym, ◌∙◌, subst, inl, inr, arith, ltb-false}
use Rattle.std.proofs.lemmas.Bool.{cases_Bool, or_parts, false≢true, both_ways}
use Rattle.std.specs.Option.{option_or}
use Rattle.mx_window.specs.Windows.{between}
use Rattle.mx_window.specs.Lasts.{last_of}
use Rattle.mx_window.proofs.Each.{AllByRecursion-filter}
use Rattle.mx_window.proofs.Intervals.{between-within}
use Rattle.mx_window.proofs.Lasts.{last_of-some, last_of-split}
use Rattle.mx_folding.specs.Sections.{window}
use Rattle.mx_folding.specs.Parts.{picks, picks_new, Part, part_of, has_some}
use Rattle.mx_folding.specs.Clients.{ClientRoom, empty_room, with_part}
use Rattle.mx_folding.specs.Agreement.{RoomAgrees}
use Rattle.mx_folding.proofs.Replies.{folds_reply, folds_new}
use Rattle.std.specs.Option.{option_and_then}
use Rattle.mx_folding.proofs.Rest.{folds_nothing}
use Rattle.mx_folding.specs.Visible.{Membership, Join, Invite, Leave, Ban, is_join}
use Rattle.mx_folding.specs.Stories.{Tokens, IsTokens, Story, own_at, joined_in, IsStory, Out, In, standing_by, standing_of, Nothing, Anew, More, Sync, told_joined, told_by, told_of, Holding, more_joined, with_told, StandingAgrees, HoldingAgrees, FoldsRoom}

-- the last own event up to a position, if it doesn't come after an earlier one, was the last there
stood_before : {E : Type 0} (at : E → ℕ) (s : ℕ) (new old : Option E) (e : E) → ◌≡◌ {A = Option E} (option_or new old) (Some e)
    → ((x : E) → ◌≡◌ {A = Option E} new (Some x) → s < at x) → at e ≤ s → ◌≡◌ {A = Option E} old (Some e)
stood_before at s None old e is later upto = is
stood_before at s (Some x) old e is later upto = let same : x ≡ e = cc (is) in let l : s < at x = later x refl in absurd (omega (arith, ap at same))

none_before : {E : Type 0} (new old : Option E) → ◌≡◌ {A = Option E} (option_or new old) None → ◌≡◌ {A = Option E} old None
none_before None old is = is
none_before (Some x) old is = absurd (cc (is))

own_split : {E K V D T : Type 0} (ts : Tokens T) (g : Story E K V D T) (s t : ℕ) → IsStory ts g → s ≤ t → own_at g t
    ≡ option_or (last_of g.is_own (between g.room.at s t g.events)) (own_at g s)
own_split ts g s t story up = last_of-split g.room.at g.is_own 0 s t 0 g.events story.room.ascends (omega arith) up

own_later : {E K V D T : Type 0} (ts : Tokens T) (g : Story E K V D T) (s t : ℕ) (x : E)
    → ◌≡◌ {A = Option E} (last_of g.is_own (between g.room.at s t g.events)) (Some x) → s < g.room.at x
own_later ts g s t x is =
    (last_of-some (λ e. (s < g.room.at e) × (g.room.at e ≤ t)) g.is_own (between g.room.at s t g.events) x (between-within g.room.at s t g.events) is).1.0

-- the member event that stands at t, if it lies at or before s, stood at s
own_stood : {E K V D T : Type 0} (ts : Tokens T) (g : Story E K V D T) (s t : ℕ) (e : E) → IsStory ts g → s ≤ t → ◌≡◌ {A = Option E} (own_at g t) (Some e)
    → nat_lt s (g.room.at e) ≡ false → ◌≡◌ {A = Option E} (own_at g s) (Some e)
own_stood ts g s t e story up is old =
    stood_before g.room.at s (last_of g.is_own (between g.room.at s t g.events)) (own_at g s) e (sym (own_split ts g s t story up)
    ∙ is) (λ x new. own_later ts g s t x new) (ltb-false s (g.room.at e) old)

-- an own event has one of the four memberships
own_known : {E K V D T : Type 0} (ts : Tokens T) (g : Story E K V D T) (t : ℕ) (e : E) → IsStory ts g
    → ◌≡◌ {A = Option E} (own_at g t) (Some e) → is_some (g.membership e) ≡ true
own_known ts g t e story is =
    let facts = last_of-some (λ e. g.is_own e ≡ true → is_some (g.membership e) ≡ true) g.is_own (between g.room.at 0 t g.events) e
    (AllByRecursion-filter (λ e. g.is_own e ≡ true → is_some (g.membership e) ≡ true) (λ e. nat_lt 0 (g.room.at e)
    && nat_le (g.room.at e) t) g.events story.kinds) is in
    facts.1 facts.0

-- what is held agrees, by how the user stands at its token, where the filter picks the room
holds_as : {E K V D T : Type 0} (ts : Tokens T) (g : Story E K V D T) (b : ℕ) (i : T) (front : ℕ) (had : Holding E K V) (own : Option E)
    → g.picked ≡ true → ◌≡◌ {A = Option E} (own_at g (ts.event i)) own
    → HoldingAgrees ts g b (Some i) front had → StandingAgrees ts g b i front (standing_of g own) had
holds_as ts g b i front had own picked is agrees = rw (picked, is) at agrees

join_stands : {E K V D T : Type 0} (ts : Tokens T) (g : Story E K V D T) (b : ℕ) (i : T) (front : ℕ) (had : Holding E K V) (own : Option E)
    → is_join (option_and_then g.membership own) ≡ true
    → StandingAgrees ts g b i front (standing_of g own) had → StandingAgrees ts g b i front In had
join_stands ts g b i front had None j h = absurd (false≢true j)
join_stands ts g b i front had (Some e) j h = by (g.membership e) j h where
  by : (m : Option Membership) → is_join m ≡ true → StandingAgrees ts g b i front (standing_by m (g.stripped e)) had → StandingAgrees ts g b i front In had
  by None j h = absurd (false≢true j)
  by (Some Join) j h = h
  by (Some Invite) j h = absurd (false≢true j)
  by (Some Leave) j h = absurd (false≢true j)
  by (Some Ban) j h = absurd (false≢true j)

module _ {E K V D T : Type 0} (ts : Tokens T) (tokens : IsTokens ts) (g : Story E K V D T) (story : IsStory ts g) (ask : Sync) (heroes : K → Bool) (b : ℕ) where
  abbrev anew : T → Part E
  anew j = part_of g.room g.events (ts.event j) (window ask.after ask.limit 0 (ts.event j)) (picks_new g.room heroes)

  abbrev more : T → T → Part E
  more i j =
      part_of g.room g.events (ts.event j) (window ask.after ask.limit (ts.event i) (ts.event j))
      (picks g.room ask.redundant b (ts.event i) (cond ask.full 0 (ts.event i)) heroes)

  -- a new room
  told_anew : (j : T) (front : ℕ) (s : ℕ) (had : Holding E K V) → ts.event j ≤ front → (g.room.stayed b (ts.event j) ≡ true → ts.event j ≤ b)
      → StandingAgrees ts g b j front In (with_told g ask.after s (ts.event j) (Anew (anew j) (g.rest.view j)) had)
  told_anew j front s had upto vacuous = (
    with_part g.room ask.after 0 (ts.event j) (anew j) (empty_room E K),
    g.rest.view j,
    refl,
    folds_new g.room g.events story.room ask.after ask.limit
        (ts.event j) front b heroes upto vacuous,
    refl,
    refl,
  )

  -- a room that the user was joined in
  told_more : (i j : T) (front front' : ℕ) (had : Holding E K V) → ts.before i j ≡ true → joined_in g (ts.event i) ≡ true
      → joined_in g (ts.event j) ≡ true → front ≤ front' → ts.event j ≤ front'
      → StandingAgrees ts g b i front In had
      → StandingAgrees ts g b j front' In
      (with_told g ask.after (ts.event i) (ts.event j) (cond (has_some (more i j) || g.rest.differs i j) (More (more i j) (g.rest.delta i j)) Nothing) had)
  told_more i j front front' had next at_i at_j later upto h =
      let room : ClientRoom E K = h.0 in
      let folded : RoomAgrees g.room g.events b (ts.event j) front' (with_part g.room ask.after (ts.event i) (ts.event j) (more i j) room) =
      folds_reply g.room g.events story.room ask.after ask.limit (cond ask.full 0 (ts.event i)) (ts.event i)
      (ts.event j) front front' b ask.redundant heroes room (story.stays (ts.event i) at_i)
      (below ask.full (ts.event i)) (tokens.rises i j next) later upto h.3 in
      elim (cases_Bool (has_some (more i j) || g.rest.differs i j)) [
        | inl some ↦ rw some (
          with_part g.room ask.after (ts.event i) (ts.event j) (more i j) room,
          g.rest.changed h.1 (g.rest.delta i j),
          ap (more_joined g ask.after (ts.event i) (ts.event j) (more i j) (g.rest.delta i j)) h.2,
          folded,
          ap (λ v. g.rest.changed v (g.rest.delta i j)) h.4 ∙ story.rest.folds i j next at_i at_j,
          refl,
        )
        | inr none ↦
            let parts = or_parts (has_some (more i j)) (g.rest.differs i j) none in
            rw none (
              room,
              h.1,
              h.2,
              subst (RoomAgrees g.room g.events b (ts.event j) front')
                  (folds_nothing g.room ask.after (ts.event i) (ts.event j) (more i j) room parts.0) folded,
              h.4 ∙ sym (story.rest.still i j next at_i at_j parts.1),
              h.5,
            )
      ] where
        below : (full : Bool) (s : ℕ) → cond full 0 s ≤ s
        below true s = omega arith
        below false s = omega arith

  -- the first reply, by the membership at its token
  first_kind : (j : T) (front : ℕ) (had : Holding E K V) (other : Part E) (e : E) (m : Option Membership) → b ≡ ts.event j
      → ts.event j ≤ front → (had.joined ≡ None) × (had.invited ≡ None)
      → StandingAgrees ts g b j front (standing_by m (g.stripped e))
      (with_told g ask.after 0 (ts.event j) (told_by ts g None j ask.leave (anew j) other e m) had)
  first_kind j front had other e None base upto none = none
  first_kind j front had other e (Some Join) base upto none = told_anew j front 0 had upto (λ stayed. omega arith)
  first_kind j front had other e (Some Invite) base upto none = (refl, refl)
  first_kind j front had other e (Some Leave) base upto none = elim (cases_Bool ask.leave) [ inl a ↦ rw a (refl, refl) | inr a ↦ rw a none ]
  first_kind j front had other e (Some Ban) base upto none = elim (cases_Bool ask.leave) [ inl a ↦ rw a (refl, refl) | inr a ↦ rw a none ]

  first_by : (j : T) (front : ℕ) (had : Holding E K V) (other : Part E) (picked : Bool) (own : Option E) → b ≡ ts.event j
      → ts.event j ≤ front → (had.joined ≡ None) × (had.invited ≡ None)
      → StandingAgrees ts g b j front (cond picked (standing_of g own) Out)
      (with_told g ask.after 0 (ts.event j) (cond picked (told_of ts g None j ask.leave (anew j) other own) Nothing) had)
  first_by j front had other false own base upto none = none
  first_by j front had other true None base upto none = none
  first_by j front had other true (Some e) base upto none = first_kind j front had other e (g.membership e) base upto none

  -- a later reply to a user that is joined at its token
  later_join : (i j : T) (front front' : ℕ) (had : Holding E K V) → ts.before i j ≡ true → b ≤ ts.event i → joined_in g (ts.event j)
      ≡ true → front ≤ front' → ts.event j ≤ front' → g.picked ≡ true
      → HoldingAgrees ts g b (Some i) front had
      → StandingAgrees ts g b j front' In (with_told g ask.after (ts.event i) (ts.event j) (told_joined ts g (Some i) j (anew j) (more i j)) had)
  later_join i j front front' had next base at_j later upto picked agrees =
      elim (cases_Bool (joined_in g (ts.event i))) [
        | inl at_i ↦ rw at_i
            (told_more i j front front' had next at_i at_j later upto
            (join_stands ts g b i front had (own_at g (ts.event i)) at_i (holds_as ts g b i front had (own_at g (ts.event i)) picked refl agrees)))
        | inr away ↦ rw away (told_anew j front' (ts.event i) had upto
            (λ stayed. absurd (both_ways (joined_in g (ts.event i)) away
            (story.stayed b (ts.event i) base (story.room.stayed_less b (ts.event i) (ts.event j) base (tokens.rises i j next) stayed)))))
      ]

  -- an event that the reply doesn't tell of stood at the earlier token
  stood : (i j : T) (front : ℕ) (had : Holding E K V) (e : E) (m : Option Membership) → ts.before i j ≡ true
      → ◌≡◌ {A = Option E} (own_at g (ts.event j)) (Some e) → ◌≡◌ {A = Option Membership} (g.membership e) m → g.picked ≡ true
      → HoldingAgrees ts g b (Some i) front had → nat_lt (ts.event i) (g.room.at e) ≡ false → StandingAgrees ts g b i front (standing_by m (g.stripped e)) had
  stood i j front had e m next is kind picked agrees old =
      subst (λ m. StandingAgrees ts g b i front (standing_by m (g.stripped e)) had) kind
      (holds_as ts g b i front had (Some e) picked (own_stood ts g (ts.event i) (ts.event j) e story (tokens.rises i j next) is old) agrees)

  later_kind : (i j : T) (front front' : ℕ) (had : Holding E K V) (e : E) (m : Option Membership) → ts.before i j ≡ true
      → b ≤ ts.event i → front ≤ front' → ts.event j ≤ front' → g.picked ≡ true
      → ◌≡◌ {A = Option E} (own_at g (ts.event j)) (Some e) → ◌≡◌ {A = Option Membership} (g.membership e) m → HoldingAgrees ts g b (Some i) front had
      → StandingAgrees ts g b j front' (standing_by m (g.stripped e))
      (with_told g ask.after (ts.event i) (ts.event j) (told_by ts g (Some i) j ask.leave (anew j) (more i j) e m) had)
  later_kind i j front front' had e None next base later upto picked is kind agrees =
      let known : is_some (g.membership e) ≡ true = own_known ts g (ts.event j) e story is in absurd (false≢true (ap is_some (sym kind) ∙ known))
  later_kind i j front front' had e (Some Join) next base later upto picked is kind agrees =
      later_join i j front front' had next base (ap (λ o. is_join (option_and_then g.membership o)) is ∙ ap is_join kind) later upto picked agrees
  later_kind i j front front' had e (Some Invite) next base later upto picked is kind agrees =
      elim (cases_Bool (nat_lt (ts.event i) (g.room.at e))) [
        | inl new ↦ rw new (refl, refl)
        | inr old ↦ rw old (stood i j front had e (Some Invite) next is kind picked agrees old)
      ]
  later_kind i j front front' had e (Some Leave) next base later upto picked is kind agrees =
      elim (cases_Bool (nat_lt (ts.event i) (g.room.at e))) [
        | inl new ↦ rw new (refl, refl)
        | inr old ↦ rw old (stood i j front had e (Some Leave) next is kind picked agrees old)
      ]
  later_kind i j front front' had e (Some Ban) next base later upto picked is kind agrees =
      elim (cases_Bool (nat_lt (ts.event i) (g.room.at e))) [
        | inl new ↦ rw new (refl, refl)
        | inr old ↦ rw old (stood i j front had e (Some Ban) next is kind picked agrees old)
      ]

  later_by : (i j : T) (front front' : ℕ) (had : Holding E K V) (picked : Bool) (own : Option E) → ts.before i j ≡ true
      → b ≤ ts.event i → front ≤ front' → ts.event j ≤ front' → g.picked ≡ picked
      → ◌≡◌ {A = Option E} (own_at g (ts.event j)) own → HoldingAgrees ts g b (Some i) front had
      → StandingAgrees ts g b j front' (cond picked (standing_of g own) Out)
      (with_told g ask.after (ts.event i) (ts.event j) (cond picked (told_of ts g (Some i) j ask.leave (anew j) (more i j) own) Nothing) had)
  later_by i j front front' had false own next base later upto picked is agrees = rw picked at agrees
  later_by i j front front' had true None next base later upto picked is agrees =
      holds_as ts g b i front had None picked (none_before (last_of g.is_own (between g.room.at (ts.event i) (ts.event j) g.events)) (own_at g (ts.event i))
      (sym (own_split ts g (ts.event i) (ts.event j) story (tokens.rises i j next)) ∙ is)) agrees
  later_by i j front front' had true (Some e) next base later upto picked is agrees =
      later_kind i j front front' had e (g.membership e) next base later upto picked is refl agrees

pub folds_room : {E K V D T : Type 0} → FoldsRoom E K V D T
folds_room ts tokens g story ask heroes b None j front front' had next base later upto agrees =
    first_by ts tokens g story ask heroes b j front' had
    (part_of g.room g.events (ts.event j) (window ask.after ask.limit 0 (ts.event j)) (picks g.room ask.redundant b 0 (cond ask.full 0 0) heroes)) g.picked
    (own_at g (ts.event j)) base upto agrees
folds_room ts tokens g story ask heroes b (Some i) j front front' had next base later upto agrees =
    later_by ts tokens g story ask heroes b i j front front' had g.picked (own_at g (ts.event j)) next base later upto refl refl agrees
