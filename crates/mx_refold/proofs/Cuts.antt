-- Where the gaps of a client's timelines were cut.
use Rattle.std.proofs.Common.{◌≡◌, ℕ, ◌-◌, ◌≤◌, Bool, true, false, cond, ◌||◌, nat_lt, List, ◌∷◌, ◌++◌, map, length, Option, Some, None, option_map, refl, ap, sym, ◌∙◌, subst, arith}
use Rattle.std.specs.Prelude.{⊤}
use Rattle.std.specs.List.{AllByRecursion}
use Rattle.std.specs.Option.{option_and_then}
use Rattle.std.proofs.lemmas.Option.{same_Some}
use Rattle.mx_window.proofs.Each.{AllByRecursion-map, AllByRecursion-append, AllByRecursion-front, AllByRecursion-back, AllByRecursion-weaker, AllByRecursion-every}
use Rattle.mx_window.proofs.Sections.{before_first-high, AllByRecursion-drop}
use Rattle.mx_folding.specs.Sections.{sendable, chunk, window}
use Rattle.mx_folding.specs.Parts.{Part, Page, Gap, gap_at, has_some, part_of, page_of, picks, picks_new}
use Rattle.mx_folding.specs.Clients.{Entry, Held, Open, ClientRoom, empty_room, gap_if, redact_entry, with_part}
use Rattle.mx_folding.specs.Visible.{Membership, Join, Invite, Leave, Ban, is_join}
use Rattle.mx_folding.specs.Stories.{Tokens, IsTokens, position, Story, own_at, joined_in, IsStory, Out, standing_by, standing_of, Told, Nothing, Anew, More, Invited, Left, Sync, told_by, told_of, told, Holding, more_joined, with_told, StandingAgrees, HoldingAgrees, IsNext}
use Rattle.mx_folding.specs.Chains.{Opening, around, paged, with_paged, IsOpen}
use Rattle.mx_folding.proofs.Cuts.{section_sent, sendable_within}
use Rattle.mx_refold.specs.Redacted.{joined_redacted, holding_redacted}
use Rattle.mx_refold.proofs.Holdings.{IsSeenFrom}

module _ {E K V D T : Type 0} (ts : Tokens T) (g : Story E K V D T) (story : IsStory ts g) where
  -- a gap ends at or before where it was cut, and the user was joined there
  abbrev pub IsCut : Entry E → Type 0
  IsCut (Held c) = ⊤
  IsCut (Open gap) = (gap.upper ≤ gap.front) × (joined_in g gap.front ≡ true)

  abbrev pub AreCut : Holding E K V → Type 0
  AreCut had = (p : ClientRoom E K × V) → ◌≡◌ {A = Option (ClientRoom E K × V)} had.joined (Some p) → AllByRecursion IsCut p.0.timeline

  redact_cut : (by : List E) (tl : List (Entry E)) → AllByRecursion IsCut tl → AllByRecursion IsCut (map (redact_entry g.room by) tl)
  redact_cut by tl cut =
      AllByRecursion-map IsCut (redact_entry g.room by) tl
      (AllByRecursion-weaker IsCut (λ x. IsCut (redact_entry g.room by x)) each tl cut) where
        each : (x : Entry E) → IsCut x → IsCut (redact_entry g.room by x)
        each (Held c) h = tt
        each (Open gap) h = h

  gap_cut : (open_still : Bool) (gap : Gap) → IsCut (Open gap) → AllByRecursion IsCut (gap_if open_still gap)
  gap_cut true gap h = (h, tt)
  gap_cut false gap h = tt

  held_cut : (cs : List E) → AllByRecursion IsCut (map Held cs)
  held_cut cs = AllByRecursion-map IsCut Held cs (AllByRecursion-every (λ c. ⊤) (λ c. tt) cs)

  -- ---- a reply

  part_cut : (after : Bool) (s t : ℕ) (part : Part E) (room : ClientRoom E K) → part.cut ≤ t → joined_in g t ≡ true
      → AllByRecursion IsCut room.timeline → AllByRecursion IsCut (with_part g.room after s t part room).timeline
  part_cut after s t part room upto joined cut =
      let gap : List (Entry E) = gap_if part.limited (gap_at s part.cut t) in
      redact_cut part.sent (room.timeline ++ gap ++ map Held part.sent)
      (AllByRecursion-append IsCut (room.timeline ++ gap) (map Held part.sent)
      (AllByRecursion-append IsCut room.timeline gap cut (gap_cut part.limited (gap_at s part.cut t) (upto, joined))) (held_cut part.sent))

  -- what is told of the room is cut at or before the token
  abbrev CutBefore : ℕ → Told E V D → Type 0
  CutBefore t Nothing = ⊤
  CutBefore t (Anew part view) = part.cut ≤ t
  CutBefore t (More part delta) = part.cut ≤ t
  CutBefore t (Invited ids) = ⊤
  CutBefore t Left = ⊤

  either : (t : ℕ) (b : Bool) (x y : Told E V D) → CutBefore t x → CutBefore t y → CutBefore t (cond b x y)
  either t true x y h k = h
  either t false x y h k = k

  -- an invite, or a room that was left, is told of or isn't
  uncut : (t : ℕ) (b : Bool) (says : Told E V D) → CutBefore t says → CutBefore t (cond b says Nothing)
  uncut t b says h = either t b says Nothing h tt

  kind_cut : (t : ℕ) (since : Option T) (j : T) (leave : Bool) (anew more : Part E) → anew.cut ≤ t → more.cut ≤ t → (e : E) (m : Option Membership)
      → CutBefore t (told_by ts g since j leave anew more e m)
  kind_cut t since j leave anew more h k e None = tt
  kind_cut t None j leave anew more h k e (Some Join) = h
  kind_cut t (Some i) j leave anew more h k e (Some Join) =
      either t (joined_in g (ts.event i)) (cond (has_some more || g.rest.differs i j) (More more (g.rest.delta i j)) Nothing) (Anew anew (g.rest.view j))
      (uncut t (has_some more || g.rest.differs i j) (More more (g.rest.delta i j)) k) h
  kind_cut t None j leave anew more h k e (Some Invite) = tt
  kind_cut t (Some i) j leave anew more h k e (Some Invite) = uncut t (nat_lt (ts.event i) (g.room.at e)) (Invited (g.stripped e)) tt
  kind_cut t None j leave anew more h k e (Some Leave) = uncut t leave Left tt
  kind_cut t (Some i) j leave anew more h k e (Some Leave) = uncut t (nat_lt (ts.event i) (g.room.at e)) Left tt
  kind_cut t None j leave anew more h k e (Some Ban) = uncut t leave Left tt
  kind_cut t (Some i) j leave anew more h k e (Some Ban) = uncut t (nat_lt (ts.event i) (g.room.at e)) Left tt

  own_cut : (t : ℕ) (since : Option T) (j : T) (leave : Bool) (anew more : Part E) → anew.cut ≤ t → more.cut ≤ t → (own : Option E)
      → CutBefore t (told_of ts g since j leave anew more own)
  own_cut t since j leave anew more h k None = tt
  own_cut t since j leave anew more h k (Some e) = kind_cut t since j leave anew more h k e (g.membership e)

  below : IsTokens ts → (since : Option T) (j : T) → IsNext ts since j → position ts since ≤ ts.event j
  below tokens None j next = omega arith
  below tokens (Some i) j next = tokens.rises i j next

  told_cut : IsTokens ts → (ask : Sync) (heroes : K → Bool) (b : ℕ) (since : Option T) (j : T) → IsNext ts since j
      → CutBefore (ts.event j) (told ts g ask heroes b since j)
  told_cut tokens ask heroes b since j next =
      let t : ℕ = ts.event j in
      let s : ℕ = position ts since in
      let anew : Part E = part_of g.room g.events t (window ask.after ask.limit 0 t) (picks_new g.room heroes) in
      let more : Part E = part_of g.room g.events t (window ask.after ask.limit s t) (picks g.room ask.redundant b s (cond ask.full 0 s) heroes) in
      uncut t g.picked (told_of ts g since j ask.leave anew more (own_at g t))
      (own_cut t since j ask.leave anew more
      (section_sent g.room g.events ask.after ask.limit t 0 t story.room (omega arith)).q_high
      (section_sent g.room g.events ask.after ask.limit t s t story.room (below tokens since j next)).q_high (own_at g t))

  -- who holds a joined room at a token is joined there
  joined_where : (b : ℕ) (i : T) (front : ℕ) (had : Holding E K V) (p : ClientRoom E K × V) → ◌≡◌ {A = Option (ClientRoom E K × V)} had.joined (Some p)
      → (picked : Bool) (own : Option E) → StandingAgrees ts g b i front (cond picked (standing_of g own) Out) (holding_redacted g.room had)
      → is_join (option_and_then g.membership own) ≡ true
  joined_where b i front had p is picked own agrees = by picked own agrees where
    none : ◌≡◌ {A = Option (ClientRoom E K × V)} (option_map (joined_redacted g.room) had.joined) None → ⊥
    none h = cc (h, ap (option_map (joined_redacted g.room)) is)

    kind : (e : E) (m : Option Membership) → StandingAgrees ts g b i front (standing_by m (g.stripped e)) (holding_redacted g.room had) → is_join m ≡ true
    kind e None h = absurd (none h.0)
    kind e (Some Join) h = refl
    kind e (Some Invite) h = absurd (none h.0)
    kind e (Some Leave) h = absurd (none h.0)
    kind e (Some Ban) h = absurd (none h.0)

    by : (picked : Bool) (own : Option E) → StandingAgrees ts g b i front (cond picked (standing_of g own) Out) (holding_redacted g.room had)
        → is_join (option_and_then g.membership own) ≡ true
    by false own h = absurd (none h.0)
    by true None h = absurd (none h.0)
    by true (Some e) h = kind e (g.membership e) h

  more_cut : (after : Bool) (s t : ℕ) (part : Part E) (delta : D) (o : Option (ClientRoom E K × V)) (p : ClientRoom E K × V) → part.cut ≤ t → joined_in g t ≡ true
      → ((q : ClientRoom E K × V) → ◌≡◌ {A = Option (ClientRoom E K × V)} o (Some q) → AllByRecursion IsCut q.0.timeline)
      → ◌≡◌ {A = Option (ClientRoom E K × V)} (more_joined g after s t part delta o) (Some p) → AllByRecursion IsCut p.0.timeline
  more_cut after s t part delta None p upto joined cut is = absurd (cc is)
  more_cut after s t part delta (Some q) p upto joined cut is =
      subst (λ (x : ClientRoom E K × V). AllByRecursion IsCut x.0.timeline)
      (same_Some (with_part g.room after s t part q.0, g.rest.changed q.1 delta) p is) (part_cut after s t part q.0 upto joined (cut q refl))

  with_told_cut : (after : Bool) (s t : ℕ) (says : Told E V D) (had : Holding E K V) → CutBefore t says → AreCut had
      → (p : ClientRoom E K × V) → ◌≡◌ {A = Option (ClientRoom E K × V)} (with_told g after s t says had).joined (Some p) → joined_in g t ≡ true
      → AllByRecursion IsCut p.0.timeline
  with_told_cut after s t Nothing had upto cut p is joined = cut p is
  with_told_cut after s t (Anew part view) had upto cut p is joined =
      subst (λ (x : ClientRoom E K × V). AllByRecursion IsCut x.0.timeline)
      (same_Some (with_part g.room after 0 t part (empty_room E K), view) p is) (part_cut after 0 t part (empty_room E K) upto joined tt)
  with_told_cut after s t (More part delta) had upto cut p is joined = more_cut after s t part delta had.joined p upto joined cut is
  with_told_cut after s t (Invited ids) had upto cut p is joined = absurd (cc is)
  with_told_cut after s t Left had upto cut p is joined = absurd (cc is)

  pub reply_cut : IsTokens ts → (ask : Sync) (heroes : K → Bool) (b b' : ℕ) (since : Option T) (j : T) (front : ℕ) (had : Holding E K V) → IsNext ts since j
      → HoldingAgrees ts g b' (Some j) front
      (holding_redacted g.room (with_told g ask.after (position ts since) (ts.event j) (told ts g ask heroes b since j) had))
      → AreCut had → AreCut (with_told g ask.after (position ts since) (ts.event j) (told ts g ask heroes b since j) had)
  reply_cut tokens ask heroes b b' since j front had next agrees cut = λ p is.
      let after : Holding E K V = with_told g ask.after (position ts since) (ts.event j) (told ts g ask heroes b since j) had in
      with_told_cut ask.after (position ts since) (ts.event j) (told ts g ask heroes b since j) had (told_cut tokens ask heroes b since j next) cut p is
      (joined_where b' j front after p is g.picked (own_at g (ts.event j)) agrees)

  -- ---- a page

  page_end : (limit e : ℕ) (gap : Gap) → (page_of g.room g.events limit e gap).end ≤ gap.upper
  page_end limit e gap =
      before_first-high g.room.at gap.upper (chunk g.room g.events limit e gap.lower gap.upper)
      (AllByRecursion-drop (λ v. g.room.at v ≤ gap.upper) (length (sendable g.room g.events e gap.lower gap.upper) - limit)
      (sendable g.room g.events e gap.lower gap.upper) (sendable_within g.room g.events e gap.lower gap.upper))

  -- the open gap of a room
  open_cut : (o : Opening E) (had : Holding E K V) → IsOpen (Some o) had → AreCut had → AllByRecursion IsCut (around o)
  open_cut o had open' cut = subst (AllByRecursion IsCut) open'.3 (cut (open'.0, open'.1) open'.2)

  pub seen_from : (e : ℕ) (o : Opening E) (had : Holding E K V) → o.gap.front ≤ e → IsOpen (Some o) had → AreCut had → IsSeenFrom ts g story e o
  seen_from e o had reached open' cut =
      let here : IsCut (Open o.gap) = (AllByRecursion-back IsCut o.before (Open o.gap ∷ o.behind) (open_cut o had open' cut)).0 in
      record { joined = here.1; cut_in = here.0; reached = reached }

  pub page_cut : (limit e : ℕ) (o : Opening E) (had : Holding E K V) → IsOpen (Some o) had → AreCut had → AreCut (with_paged g limit e (Some o) had)
  page_cut limit e o had open' cut = λ p is.
      let page : Page E = page_of g.room g.events limit e o.gap in
      let left : Gap = gap_at o.gap.lower page.end o.gap.front in
      let all : AllByRecursion IsCut (around o) = open_cut o had open' cut in
      let back = AllByRecursion-back IsCut o.before (Open o.gap ∷ o.behind) all in
      let first : page.end ≤ o.gap.upper = page_end limit e o.gap in
      let last : o.gap.upper ≤ o.gap.front = back.0.0 in
      let front : AllByRecursion IsCut (o.before ++ gap_if page.more left ++ map Held page.sent) =
      AllByRecursion-append IsCut (o.before ++ gap_if page.more left) (map Held page.sent)
      (AllByRecursion-append IsCut o.before (gap_if page.more left) (AllByRecursion-front IsCut o.before (Open o.gap ∷ o.behind) all)
      (gap_cut page.more left (omega arith, back.0.1))) (held_cut page.sent) in
      subst (λ (x : ClientRoom E K × V). AllByRecursion IsCut x.0.timeline)
      (same_Some (paged g limit e o (open'.0, open'.1)) p (sym (ap (option_map (paged g limit e o)) open'.2) ∙ is))
      (redact_cut page.sent (o.before ++ gap_if page.more left ++ map Held page.sent ++ o.behind)
      (AllByRecursion-append IsCut (o.before ++ gap_if page.more left ++ map Held page.sent) o.behind front back.1))
