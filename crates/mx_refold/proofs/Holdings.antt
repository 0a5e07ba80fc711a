-- What is held of a room agrees after a reply or a page, once its copies are redacted by what its timeline holds.
use Rattle.std.proofs.Common.{◌≡◌, ℕ, ◌≤◌, Bool, true, List, ◌∷◌, ◌++◌, map, Option, Some, None, option_map, refl, ap, sym, ◌∙◌, subst}
use Rattle.std.proofs.lemmas.List.{map-append}
use Rattle.std.proofs.lemmas.Option.{same_Some}
use Rattle.mx_folding.specs.Redactions.{redact_by}
use Rattle.mx_folding.specs.Parts.{Page, page_of}
use Rattle.mx_folding.specs.Clients.{Open, ClientRoom, held, redact_entry, with_page}
use Rattle.mx_folding.specs.Agreement.{RoomAgrees}
use Rattle.mx_folding.specs.Stories.{Tokens, IsTokens, position, Story, joined_in, IsStory, Standing, Out, In, Asked, standing, Told, Sync, told, Holding, with_told, StandingAgrees, HoldingAgrees, IsNext, IsBase}
use Rattle.mx_folding.specs.Chains.{Opening, around, paged, with_paged, IsOpen}
use Rattle.mx_folding.proofs.Memberships.{folds_room}
use Rattle.mx_folding.proofs.Timelines.{Rises-around}
use Rattle.mx_refold.specs.Redacted.{room_redacted, joined_redacted, holding_redacted}
use Rattle.mx_refold.proofs.Redacted.{redacted_agrees, redacts_page}
use Rattle.mx_refold.proofs.Twice.{told_twice}
use Rattle.mx_refold.proofs.Pages.{folds_any_page}

module _ {E K V D T : Type 0} (ts : Tokens T) (g : Story E K V D T) (story : IsStory ts g) where
  abbrev redacted : ClientRoom E K × V → ClientRoom E K × V
  redacted p = joined_redacted g.room p

  stands : (b : ℕ) (i : T) (front : ℕ) (st : Standing) (had : Holding E K V) → ts.event i ≤ front
      → StandingAgrees ts g b i front st had → StandingAgrees ts g b i front st (holding_redacted g.room had)
  stands b i front Out had upto h = (ap (option_map redacted) h.0, h.1)
  stands b i front (Asked ids) had upto h = (ap (option_map redacted) h.0, h.1)
  stands b i front In had upto h = (
    room_redacted g.room h.0,
    h.1,
    ap (option_map redacted) h.2,
    redacted_agrees g.room g.events story.room b (ts.event i) front h.0 upto h.3,
    h.4,
    h.5,
  )

  -- ---- a reply

  pub reply_folds : IsTokens ts → (ask : Sync) (heroes : K → Bool) (b : ℕ) (since : Option T) (j : T) (front front' : ℕ) (had : Holding E K V)
      → IsNext ts since j → IsBase ts b since j → front ≤ front' → ts.event j ≤ front'
      → HoldingAgrees ts g b since front (holding_redacted g.room had)
      → HoldingAgrees ts g b (Some j) front'
      (holding_redacted g.room (with_told g ask.after (position ts since) (ts.event j) (told ts g ask heroes b since j) had))
  reply_folds tokens ask heroes b since j front front' had next base later upto agrees =
      let says : Told E V D = told ts g ask heroes b since j in
      let after : Holding E K V = with_told g ask.after (position ts since) (ts.event j) says (holding_redacted g.room had) in
      subst (HoldingAgrees ts g b (Some j) front') (told_twice g story.room ask.after (position ts since) (ts.event j) says had)
      (stands b j front' (standing g (ts.event j)) after upto
      (folds_room ts tokens g story ask heroes b since j front front' (holding_redacted g.room had) next base later upto agrees))

  -- ---- a page

  -- the room of an open gap, after the redactions of its timeline
  abbrev opened : Opening E → (K → Option E) → ClientRoom E K
  opened o state = record {
    state = λ k. option_map (redact_by g.room (held (around o))) (state k);
    timeline = map (redact_entry g.room (held (around o))) o.before ++ Open o.gap ∷ map (redact_entry g.room (held (around o))) o.behind;
  }

  opened_is : (o : Opening E) (room : ClientRoom E K) → room.timeline ≡ around o → room_redacted g.room room ≡ opened o room.state
  opened_is o room is =
      let whole : ◌≡◌ {A = ClientRoom E K} room (record { state = room.state; timeline = around o }) =
      λ i. record { state = room.state; timeline = is i } in
      let split = map-append (redact_entry g.room (held (around o))) o.before (Open o.gap ∷ o.behind) in
      ap (room_redacted g.room) whole ∙ (λ i. record { state = (opened o room.state).state; timeline = split i })

  -- how the user stood where the gap was cut, and that the page is judged there or later
  pub record IsSeenFrom (e : ℕ) (o : Opening E) : Type 0 where
    pub joined : joined_in g o.gap.front ≡ true
    pub cut_in : o.gap.upper ≤ o.gap.front
    pub reached : o.gap.front ≤ e

  opened_agrees : (b front : ℕ) (i : T) (o : Opening E) (had : Holding E K V) (open' : IsOpen (Some o) had)
      → StandingAgrees ts g b i front In (holding_redacted g.room had)
      → RoomAgrees g.room g.events b (ts.event i) front (opened o open'.0.state) × (open'.1 ≡ g.rest.view i)
  opened_agrees b front i o had open' h =
      let same : redacted (open'.0, open'.1) ≡ (h.0, h.1) =
      same_Some (redacted (open'.0, open'.1)) (h.0, h.1) (sym (ap (option_map redacted) open'.2) ∙ h.2) in (
        subst (RoomAgrees g.room g.events b (ts.event i) front)
            (ap (λ (p : ClientRoom E K × V). p.0) (sym same) ∙ opened_is o open'.0 open'.3) h.3,
        ap (λ (p : ClientRoom E K × V). p.1) same ∙ h.4,
      )

  none_open : (o : Opening E) (had : Holding E K V) → IsOpen (Some o) had
      → ◌≡◌ {A = Option (ClientRoom E K × V)} (option_map redacted had.joined) None → ⊥
  none_open o had open' none = cc (none, ap (option_map redacted) open'.2)

  page_in : (limit b e front front' : ℕ) (i : T) (o : Opening E) (had : Holding E K V) (st : Standing) → IsSeenFrom e o
      → e ≤ front' → ts.event i ≤ front' → front ≤ front' → IsOpen (Some o) had → StandingAgrees ts g b i front st (holding_redacted g.room had)
      → StandingAgrees ts g b i front' st (holding_redacted g.room (with_paged g limit e (Some o) had))
  page_in limit b e front front' i o had Out seen upto in' later open' h = absurd (none_open o had open' h.0)
  page_in limit b e front front' i o had (Asked ids) seen upto in' later open' h = absurd (none_open o had open' h.0)
  page_in limit b e front front' i o had In seen upto in' later open' h =
      let room : ClientRoom E K = open'.0 in
      let page : Page E = page_of g.room g.events limit e o.gap in
      let by : List E = held (around o) in
      let old = opened_agrees b front i o had open' h in
      let new = folds_any_page g.room g.events story.room limit b (ts.event i) front front' e o.gap
      (map (redact_entry g.room by) o.before) (map (redact_entry g.room by) o.behind) (opened o room.state).state
      (story.stays o.gap.front seen.joined) seen.cut_in seen.reached upto in' later old.0 in (
        room_redacted g.room (with_page g.room o.gap o.before o.behind page room.state),
        open'.1,
        ap (λ j. option_map redacted (option_map (paged g limit e o) j)) open'.2,
        subst (RoomAgrees g.room g.events b (ts.event i) front')
            (redacts_page g.room g.events story.room o.gap o.before o.behind page room.state by refl) new,
        old.1,
        h.5,
      )

  -- an open gap ends at or after where it begins
  pub gap_order : (b front : ℕ) (i : T) (o : Opening E) (had : Holding E K V) (st : Standing) → IsOpen (Some o) had
      → StandingAgrees ts g b i front st (holding_redacted g.room had) → o.gap.lower ≤ o.gap.upper
  gap_order b front i o had Out open' h = absurd (none_open o had open' h.0)
  gap_order b front i o had (Asked ids) open' h = absurd (none_open o had open' h.0)
  gap_order b front i o had In open' h =
      let by : List E = held (around o) in
      let t : ℕ = ts.event i in
      (Rises-around g.room.at t 0 t o.gap.lower o.gap.upper o.gap.front (map (redact_entry g.room by) o.before) (map (redact_entry g.room by) o.behind)
      (opened_agrees b front i o had open' h).0.timeline.order).1

  -- before its first token the client has no open gap
  pub page_folds : (limit b e front front' : ℕ) (since : Option T) (o : Opening E) (had : Holding E K V) → IsSeenFrom e o
      → e ≤ front' → position ts since ≤ front' → front ≤ front' → IsOpen (Some o) had → HoldingAgrees ts g b since front (holding_redacted g.room had)
      → HoldingAgrees ts g b since front' (holding_redacted g.room (with_paged g limit e (Some o) had))
  page_folds limit b e front front' None o had seen upto in' later open' agrees = absurd (none_open o had open' agrees.0)
  page_folds limit b e front front' (Some i) o had seen upto in' later open' agrees =
      page_in limit b e front front' i o had (standing g (ts.event i)) seen upto in' later open' agrees
